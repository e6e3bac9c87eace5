-- Laws for the loops of an engine: how the lists of places and candidates shrink from turn to turn. Assumes nothing.
use mathlib.Core.Path.{◌≡◌, refl}
use mathlib.Core.Bool.{Bool, true, false, ◌&&◌}
use mathlib.Core.Option.{Option, none, some}
use mathlib.Core.List.{List, [], ◌∷◌, ◌++◌, map}
use Prim.Native.Nat.{ℕ, zero, suc, ◌+◌, ◌≤◌, ◌<◌, ◌-◌}
use native.Mathlib.Numerals.{add-one}
use native.Mathlib.Omega.{arith}
use lib.ListN.{length}
use Rattle.descent.specs.Order.{range, each, scan}
use Rattle.descent.specs.Search.{least, first_least, goes_on, begins_again, Search, Judge, Sweep, ok, taken, first_move, next, settled, stopped, run}
use Rattle.descent.specs.Within.{Reversal, reversals}

-- `for k in a..b`: a turn, and the end
pub range_step : (a b : ℕ) → a < b → range a b ≡ a ∷ range (suc a) b
range_step a b h = let e : b - a ≡ suc (b - suc a) = omega arith in rw e

pub range_done : (a b : ℕ) → b ≤ a → range a b ≡ []
range_done a b h = let e : b - a ≡ 0 = omega arith in rw e

-- a loop that carries a value: likewise
module _ {B : Type 0} (f : ℕ → B → B) (k n : ℕ) (b : B) where
  pub scan_turn : (after : B) → k < n → after ≡ f k b → scan f (range (k + 1) n) after ≡ scan f (range k n) b
  unfolding scan
  scan_turn after h e = rw (add-one k, range_step k n h, e)

  pub scan_done : n ≤ k → scan f (range k n) b ≡ b
  unfolding scan
  scan_done h = rw (range_done k n h)

-- the best after some candidates is where the rest goes on from
pub least_append : {C : Type 0} (ok : C → Bool) (less : C → C → Bool) (best : C) (cs ds : List C)
    → least ok less best (cs ++ ds) ≡ least ok less (least ok less best cs) ds
unfolding least
least_append ok less best [] ds = refl
least_append ok less best (c ∷ cs) ds = go (ok c && less c best) (least_append ok less c cs ds) (least_append ok less best cs ds)
  where
    go : (b : Bool) → least ok less c (cs ++ ds) ≡ least ok less (least ok less c cs) ds → least ok less best (cs ++ ds)
        ≡ least ok less (least ok less best cs) ds
        → elim b [ true ↦ least ok less c (cs ++ ds) | false ↦ least ok less best (cs ++ ds) ]
        ≡ least ok less (elim b [ true ↦ least ok less c cs | false ↦ least ok less best cs ]) ds
    go true p q = p
    go false p q = q

-- ---- 2-opt: the places from (i, j) on

abbrev row : ℕ → ℕ → ℕ → List Reversal
row n i j = map (λ j. record { first = i; last = j }) (range j n)

abbrev pub rows_from : ℕ → ℕ → List Reversal
rows_from n i = each (range i (n - 1)) λ k. row n k (suc k)

abbrev pub reversals_from : ℕ → ℕ → ℕ → List Reversal
reversals_from n i j = row n i j ++ rows_from n (suc i)

pub reversals_start : (n : ℕ) → 2 ≤ n → reversals n ≡ reversals_from n 0 1
reversals_start n h = rw (range_step 0 (n - 1) (omega arith))

pub reversals_turn : (n i j : ℕ) → j < n → reversals_from n i j ≡ record { first = i; last = j } ∷ reversals_from n i (suc j)
reversals_turn n i j h = rw (range_step j n h)

pub reversals-next : (n i j : ℕ) → n ≤ j → suc i < n - 1 → reversals_from n i j ≡ reversals_from n (suc i) (suc (suc i))
reversals-next n i j h k = rw (range_done j n h, range_step (suc i) (n - 1) k)

pub reversals_done : (n i j : ℕ) → n ≤ j → n - 1 ≤ suc i → reversals_from n i j ≡ []
reversals_done n i j h k = rw (range_done j n h, range_done (suc i) (n - 1) k)

pub rows_end : (n i : ℕ) → n ≤ suc i → length (rows_from n i) ≡ 0
rows_end n i h = rw (range_done i (n - 1) (omega arith))

-- ---- one turn of a search, for the code's loops

module _ {State Place Move Value : Type 0} (search : Search State Place Move) (judge : Judge State Move Value) where
  -- a place with no candidate to take is passed over; at one with a candidate the sweep's step is made
  pub place_passed : (x : State) (p : Place) (ps : List Place) → taken search judge x p ≡ none → first_move search judge x (p ∷ ps) ≡ first_move search judge x ps
  unfolding first_move
  place_passed x p ps e = rw (e, first_move)

  pub place_moved : (x : State) (p : Place) (ps : List Place) (m : Move) → taken search judge x p ≡ some m
      → first_move search judge x (p ∷ ps) ≡ some (record { now = search.made x m; ahead = elim search.after [ goes_on ↦ ps | begins_again ↦ [] ] })
  unfolding first_move
  place_moved x p ps m e = rw (e, first_move)

  -- a place with one candidate
  pub one_taken : (x : State) (p : Place) (m : Move) → search.candidates x p ≡ m ∷ [] → ok search judge x m ≡ true → taken search judge x p ≡ some m
  unfolding taken first_least least
  one_taken x p m c e = rw c (rw (e, first_least))

  pub one_left : (x : State) (p : Place) (m : Move) → search.candidates x p ≡ m ∷ [] → ok search judge x m ≡ false → taken search judge x p ≡ none
  unfolding taken first_least
  one_left x p m c e = rw c (rw (e, first_least))

  -- the next move is ahead; or in a new sweep
  pub next-ahead : (s t : Sweep State Place) → first_move search judge s.now s.ahead ≡ some t → next search judge s ≡ some t
  unfolding next
  next-ahead s t e = rw (e, next)

  pub next_sweep : (s : Sweep State Place) → first_move search judge s.now s.ahead ≡ none → next search judge s
      ≡ first_move search judge s.now (search.places s.now)
  unfolding next
  next_sweep s e = rw (e, next)

-- ---- one turn of a run

module _ {S : Type 0} (step : S → Option S) where
  pub run_settles : (limit : ℕ) (s : S) → step s ≡ none → run step limit s ≡ record { word = settled; moves = 0; last = s }
  unfolding run
  run_settles zero s e = rw (e, run)
  run_settles (suc limit) s e = rw (e, run)

  pub run_stops : (s t : S) → step s ≡ some t → run step 0 s ≡ record { word = stopped; moves = 0; last = s }
  unfolding run
  run_stops s t e = rw (e, run)

  pub run-moves : (limit : ℕ) (s t : S) → step s ≡ some t
      → run step (suc limit) s ≡ (let r = run step limit t in record { word = r.word; moves = suc r.moves; last = r.last })
  unfolding run
  run-moves limit s t e = rw (e, run)

-- ---- one turn of a choice

module _ {C : Type 0} (may : C → Bool) (less : C → C → Bool) where
  pub least_better : (best c : C) (cs : List C) → (may c && less c best) ≡ true → least may less best (c ∷ cs) ≡ least may less c cs
  unfolding least
  least_better best c cs e = rw (e, least)

  pub least_stays : (best c : C) (cs : List C) → (may c && less c best) ≡ false → least may less best (c ∷ cs) ≡ least may less best cs
  unfolding least
  least_stays best c cs e = rw (e, least)

  pub first_found : (c : C) (cs : List C) → may c ≡ true → first_least may less (c ∷ cs) ≡ some (least may less c cs)
  unfolding first_least
  first_found c cs e = rw (e, first_least)

  pub first_passed : (c : C) (cs : List C) → may c ≡ false → first_least may less (c ∷ cs) ≡ first_least may less cs
  unfolding first_least
  first_passed c cs e = rw (e, first_least)
