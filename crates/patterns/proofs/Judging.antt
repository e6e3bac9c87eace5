-- One way more, as the code tries it: the delta that it works out and the check that it makes are the definition's, so that each of its three ends is one of a
-- scan's turn (engine's proofs/Choosing.antt). Assumes nothing.
use mathlib.Core.Path.{◌≡◌, sym, ap, ◌∙◌}
use mathlib.Core.Bool.{Bool, true, false}
use mathlib.Core.List.{List, [], ◌∷◌}
use Prim.Native.Nat.{ℕ, ◌+◌}
use lib.Ieee.{Float, lt}
use Rattle.std.specs.Prelude.{Some, None}
use Rattle.day.specs.Matrix.{leg}
use Rattle.labels.specs.Columns.{Columns, Visits}
use Rattle.descent.specs.Permitted.{Arrangement}
use Rattle.descent.specs.Within.{reconnect}
use Rattle.deltas.specs.Changes.{Placed, pattern_change}
use Rattle.deltas.specs.Deltas.{Listed, cut_at, three_opt_delta}
use Rattle.deltas.specs.declared.Cut.{Cut}
use Rattle.deltas.proofs.Stops.{around_placed, ends_placed}
use Rattle.engine.specs.Engine.{passing}
use Rattle.engine.specs.declared.best.Best.{Best}
use Rattle.engine.proofs.Choosing.{among_above, among_failing, among_taken}
use Rattle.layouts.specs.Layout.{nth_way, arrangement}
use Rattle.layouts.specs.declared.Way.{Way}
use Rattle.reconnections.specs.Reconnections.{cut_of, reconnection}
use Rattle.reconnections.specs.declared.Place.{Place}
use Rattle.patterns.specs.Patterns.{search_of, judge_of, Prepared, nth_candidate, bound_of, Known, Among}
use Rattle.patterns.specs.declared.Setup.{Setup}

-- a list of a day that is prepared
pub listed : {s : Setup} {c : Columns} {xs : List ℕ} → Prepared s c → Visits c.l xs → Listed c.l s.depot xs
listed p v = record { depot_there = p.depot_there; visits = v.below }

-- the stops of a cut are locations
pub cut_placed : (d : ℕ → ℕ → Float) (l depot : ℕ) (xs : List ℕ) (i j k : ℕ) (cut : Cut) → cut ≡ cut_at d depot xs i j k → Listed l depot xs
    → Placed l cut.around × Placed l cut.b × Placed l cut.c
unfolding cut_at
cut_placed d l depot xs i j k cut e there =
    rw e (around_placed l depot xs there (i + 1) (k + 1), ends_placed l depot xs there (i + 1) (j + 1), ends_placed l depot xs there (j + 1) (k + 1))

-- what the code works out is the judge's delta
delta_is : (c : Columns) (depot : ℕ) (xs : List ℕ) (place : Place) (cut : Cut) (way : Arrangement) (x : Float)
    → cut ≡ cut_at (leg c.l c.distances) depot xs place.i place.j place.k
    → x ≡ pattern_change (leg c.l c.distances) cut way.0 way.1 way.2 → x ≡ (judge_of c depot).delta xs (record { cut = cut_of place; way = way })
unfolding judge_of three_opt_delta
delta_is c depot xs place cut way x is_cut is-way = rw (is-way, is_cut)

module _ (s : Setup) (c : Columns) (xs : List ℕ) (place : Place) (cut : Cut) (best : Best Way) (number : ℕ) (way : Way) (x : Float)
    (is_cut : cut ≡ cut_at (leg c.l c.distances) s.depot xs place.i place.j place.k) (is-way : arrangement way ≡ nth_way number)
    (is-change : x ≡ pattern_change (leg c.l c.distances) cut way.exchanged way.b_turned way.c_turned) (known : Known c s xs place best) where
  is_delta : x ≡ (judge_of c s.depot).delta xs (reconnection place way)
  is_delta = delta_is c s.depot xs place cut (arrangement way) x is_cut is-change

  numbered : {new : Best Way} → Among c s xs place best (reconnection place way ∷ []) new → Among c s xs place best (nth_candidate place number ∷ []) new
  numbered {new} among = rw is-way at among

  -- not below the best so far
  pub better_far : lt x best.bound ≡ false → Among c s xs place best (nth_candidate place number ∷ []) best
  better_far e =
      numbered (among_above (reconnection place) ((judge_of c s.depot).delta xs) ((search_of c s.limits s.depot).passes xs) (bound_of c) best way x known is_delta e)

  module _ (ready : Prepared s c) (passed : Bool) (asked : passed ≡ passing s.needed c s.limits s.depot (reconnect xs (reconnection place way))) where
    passed_is : passed ≡ (search_of c s.limits s.depot).passes xs (reconnection place way)
    unfolding search_of
    passed_is = asked ∙ ap (λ (b : Bool). passing b c s.limits s.depot (reconnect xs (reconnection place way))) ready.needed

    -- below it, and the list does not pass; or does
    pub better_refused : passed ≡ false → Among c s xs place best (nth_candidate place number ∷ []) best
    better_refused e =
        numbered (among_failing (reconnection place) ((judge_of c s.depot).delta xs) ((search_of c s.limits s.depot).passes xs) (bound_of c) best way x known
        is_delta (sym passed_is ∙ e))

    pub better_taken : lt x best.bound ≡ true → passed ≡ true
        → Among c s xs place best (nth_candidate place number ∷ []) (record { bound = x; found = Some way })
    better_taken e f =
        numbered (among_taken (reconnection place) ((judge_of c s.depot).delta xs) ((search_of c s.limits s.depot).passes xs) (bound_of c) best way x known
        is_delta e (sym passed_is ∙ f))
