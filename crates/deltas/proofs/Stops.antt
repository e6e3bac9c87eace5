-- The stops that a move touches are locations, since the visits and the depot are, and so are the visits of a part of a list. Assumes nothing.
use mathlib.Core.Path.{◌≡◌, refl, ap}
use mathlib.Core.Bool.{Bool, true, false}
use mathlib.Core.List.{List, [], ◌∷◌}
use Prim.Native.Nat.{ℕ, zero, suc, ◌-◌, ◌≤◌, ◌<◌}
use native.Mathlib.Omega.{arith}
use lib.ListN.{length, get_or, take, drop, take-append-drop, get_or-eq_default}
use lib.Seq.{slice}
use Rattle.edits.specs.Total.{total, total_append, total_one}
use Rattle.descent.proofs.Below.{over, Below}
use Rattle.deltas.specs.Changes.{Placed, turned_if}
use Rattle.deltas.specs.Deltas.{Listed, stop_at, stop_before, around, ends_of}
use Rattle.deltas.specs.declared.Ends.{Ends}

-- inside a list it does not matter what stands for none
pub get_or_any : (xs : List ℕ) (k a b : ℕ) → k < length xs → get_or xs k a ≡ get_or xs k b
get_or_any [] k a b h = absurd (omega arith)
get_or_any (x ∷ xs) zero a b h = refl
get_or_any (x ∷ xs) (suc k) a b h = get_or_any xs k a b (omega arith)

module _ (depot : ℕ) (xs : List ℕ) (k : ℕ) where
  pub stop_visit : k < length xs → stop_at depot xs k ≡ get_or xs k 0
  unfolding stop_at
  stop_visit h = get_or_any xs k depot 0 h

  pub stop_depot : length xs ≤ k → stop_at depot xs k ≡ depot
  unfolding stop_at
  stop_depot h = get_or-eq_default xs depot h

pub before_visit : (depot : ℕ) (xs : List ℕ) (k : ℕ) → 0 < k → k ≤ length xs → stop_before depot xs k ≡ get_or xs (k - 1) 0
unfolding stop_before
before_visit depot xs zero h t = absurd (omega arith)
before_visit depot xs (suc k) h t = let e : suc k - 1 ≡ k = omega arith in rw e (get_or_any xs k depot 0 t)

-- ---- locations

any_there : (l depot : ℕ) (xs : List ℕ) → depot < l → ((k : ℕ) → k < length xs → get_or xs k 0 < l) → (k : ℕ) → get_or xs k depot < l
any_there l depot [] home h k = home
any_there l depot (x ∷ xs) home h zero = h 0 (omega arith)
any_there l depot (x ∷ xs) home h (suc k) = any_there l depot xs home (λ i t. h (suc i) (omega arith)) k

module _ (l depot : ℕ) (xs : List ℕ) (ok : Listed l depot xs) where
  pub stop_there : (k : ℕ) → stop_at depot xs k < l
  unfolding stop_at
  stop_there k = any_there l depot xs ok.depot_there ok.visits k

  pub before_there : (k : ℕ) → stop_before depot xs k < l
  unfolding stop_before
  before_there zero = ok.depot_there
  before_there (suc k) = any_there l depot xs ok.depot_there ok.visits k

  pub around_placed : (first end : ℕ) → Placed l (around depot xs first end)
  unfolding around
  around_placed first end = record { from_there = before_there first; to_there = stop_there end }

  pub ends_placed : (first end : ℕ) → Placed l (ends_of depot xs first end)
  unfolding ends_of
  ends_placed first end = record { from_there = stop_there first; to_there = before_there end }

pub turned_placed : (l : ℕ) (turned : Bool) (piece : Ends) → Placed l piece → Placed l (turned_if turned piece)
unfolding turned_if
turned_placed l false piece h = h
turned_placed l true piece h = record { from_there = h.to_there; to_there = h.from_there }

-- ---- a part of a list has no more of anything than the list

slice_le : (f : ℕ → ℕ) (i e : ℕ) (xs : List ℕ) → total f (slice i e xs) ≤ total f xs
slice_le f i e xs =
    let outer = ap (total f) (take-append-drop e xs) in
    let inner = ap (total f) (take-append-drop i (take e xs)) in
    omega (arith, total_append f (take e xs) (drop e xs), total_append f (take i (take e xs)) (slice i e xs))

pub slice_below : (l i e : ℕ) (xs : List ℕ) → Below l xs → Below l (slice i e xs)
slice_below l i e xs b = omega (arith, slice_le (over l) i e xs)

pub slice_short : (n i e : ℕ) (xs : List ℕ) → length xs ≤ n → length (slice i e xs) ≤ n
slice_short n i e xs h = omega (arith, slice_le (λ x. 1) i e xs, total_one xs, total_one (slice i e xs))
