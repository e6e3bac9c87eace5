-- The scan over two lists' cuts takes the first least of the exchanges that count and pass, by the laws of scans (descent's proofs/Scanning.antt).
-- Assumes nothing.
use mathlib.Core.Path.{◌≡◌, refl, sym, ap, ◌∙◌}
use mathlib.Core.Bool.{Bool, true, false, cond, ◌&&◌}
use mathlib.Core.Option.{Option as Maybe, none}
use mathlib.Core.List.{List, [], ◌∷◌, ◌++◌, map}
use Prim.Native.Nat.{ℕ, zero, suc, ◌-◌}
use lib.Ieee.{Float, lt, neg}
use Rattle.std.specs.Prelude.{Option}
use Rattle.lists.specs.Table.{lists, list_of}
use Rattle.lists.proofs.Tables.{at_lists}
use Rattle.descent.specs.Order.{from_on, range, each, scan}
use Rattle.descent.specs.Scan.{onward, figure, Counted}
use Rattle.descent.specs.Across.{at, Pair, Tails}
use Rattle.descent.proofs.Scanning.{onward_better, counted_better, onward_stays, onward_end}
use Rattle.tail_candidates.specs.Choice.{cut_of, nothing, better_by}
use Rattle.tail_candidates.specs.declared.Choice.{Choice}
use Rattle.tail_candidates.specs.declared.Cut.{Cut}
use Rattle.tails.specs.Best.{row_by, best_by}
use Rattle.exchange_sweeps.specs.Exchange.{Rules, pair_at, moved_by, taken_at}
use Rattle.exchange_sweeps.specs.declared.Place.{Place}

-- the exchanges of a pair, by what one changes and whether it passes
module _ (p : Pair) (delta : Tails → Float) (pass : Tails → Bool) (floor : Float) where
  abbrev tails : ℕ → ℕ → Tails
  tails i k = record { pair = p; cut1 = i; cut2 = k }

  abbrev change : ℕ → ℕ → Float
  change i k = delta (tails i k)

  abbrev may_go : ℕ → ℕ → Bool
  may_go i k = pass (tails i k)

  abbrev bound : Float
  bound = neg floor

  abbrev moved : Choice → Maybe Tails
  moved best = moved_by p (cut_of best.cut1 best.cut2)

  -- a best so far has the delta of its exchange, and counts
  record Known (best : Choice) : Type 0 where
    pub figured : best.delta ≡ figure delta pass bound (moved best)
    pub counted : Counted delta pass bound (moved best)

  -- what is left comes to the same with the newer best
  record Onward (best newer : Choice) (these rest : List Tails) : Type 0 where
    pub same : onward delta pass bound (moved best) these ≡ onward delta pass bound (moved newer) rest
    pub known : Known newer

  one_more : (i k : ℕ) (best : Choice) (rest : List Tails) → Known best
      → Onward best (better_by change may_go (suc i) k best) (tails (suc i) k ∷ rest) rest
  unfolding better_by moved_by cut_of lt figure
  one_more i k best rest known = go (lt (delta m) best.delta && pass m) refl
    where
      m : Tails
      m = tails (suc i) k

      tested : (lt (delta m) (figure delta pass bound (moved best)) && pass m) ≡ (lt (delta m) best.delta && pass m)
      tested = ap (λ (x : Float). lt (delta m) x && pass m) (sym known.figured)

      go : (b : Bool) → (lt (delta m) best.delta && pass m) ≡ b
          → Onward best (cond b (record { cut1 = suc i; cut2 = k; delta = delta m }) best) (m ∷ rest) rest
      go true e = record {
        same = onward_better delta pass bound (moved best) m rest known.counted (tested ∙ e);
        known = record { figured = refl; counted = counted_better delta pass bound (moved best) m known.counted (tested ∙ e) };
      }
      go false e = record { same = onward_stays delta pass bound (moved best) m rest (tested ∙ e); known = known }

  row_more : (i : ℕ) (ks : List ℕ) (best : Choice) (rest : List Tails) → Known best
      → Onward best (scan (better_by change may_go (suc i)) ks best) (map (tails (suc i)) ks ++ rest) rest
  unfolding scan
  row_more i [] best rest known = record { same = refl; known = known }
  row_more i (k ∷ ks) best rest known =
      let one = one_more i k best (map (tails (suc i)) ks ++ rest) known in
      let more = row_more i ks (better_by change may_go (suc i) k best) rest one.known in
      record { same = one.same ∙ more.same; known = more.known }

  rows_more : (a n n2 : ℕ) (best : Choice) → Known best
      → onward delta pass bound (moved best) (each (from_on (suc a) n) λ i. map (tails i) (range 1 (suc n2)))
      ≡ moved (scan (row_by change may_go n2) (from_on (suc a) n) best)
  unfolding scan row_by
  rows_more a zero n2 best known = onward_end delta pass bound (moved best)
  rows_more a (suc n) n2 best known =
      let row = row_more a (range 1 (suc n2)) best (each (from_on (suc (suc a)) n) λ i. map (tails i) (range 1 (suc n2))) known in
      row.same ∙ rows_more (suc a) n n2 (row_by change may_go n2 (suc a) best) row.known

  known-nothing : Known (nothing floor)
  unfolding moved_by cut_of figure Counted
  known-nothing = record { figured = refl; counted = tt }

  -- the best of all is the first least of all
  pub best_first : (n1 n2 : ℕ) → moved (best_by change may_go n1 n2 floor)
      ≡ onward delta pass bound none (each (range 1 (suc n1)) λ i. map (tails i) (range 1 (suc n2)))
  unfolding best_by moved_by cut_of
  best_first n1 n2 = sym (rows_more 0 (suc n1 - 1) n2 (nothing floor) known-nothing)

-- by any rules, of two lists of the tables: where the best of two lists is what is taken there
module _ (rules : Rules) (best_of : List ℕ → List ℕ → Choice) where
  abbrev pub taken_of : List ℕ → List ℕ → Pair → Maybe Tails
  taken_of X Y p = moved_by p (cut_of (best_of X Y).cut1 (best_of X Y).cut2)

  pub best_at : ((ls : List (List ℕ)) (p : Pair) → taken_of (at ls p.one) (at ls p.other) p ≡ taken_at rules ls p)
      → (visits lengths : List ℕ) (p : Place) (X Y : List ℕ) (best : Choice) (found : Option Cut) → X ≡ list_of visits lengths p.one
      → Y ≡ list_of visits lengths p.other → best ≡ best_of X Y → found ≡ cut_of best.cut1 best.cut2
      → moved_by (pair_at p) found ≡ taken_at rules (lists visits lengths) (pair_at p)
  best_at right visits lengths p X Y best found e f q is =
      rw (is, q, e, f, ← at_lists visits lengths p.one, ← at_lists visits lengths p.other) (right (lists visits lengths) (pair_at p))
