-- Demands and capacities are numbers from 0 on; a head's load is a running sum, and a tail's the list's less it; no list has more than 63,000,000 boxes, so
-- that no sum can wrap. Assumes nothing.
use mathlib.Core.Path.{◌≡◌, sym, ap, ◌∙◌}
use mathlib.Core.Bool.{true, ◌&&◌, false≢true}
use mathlib.Core.List.{List, [], ◌∷◌}
use Prim.Native.Nat.{ℕ, suc, ◌+◌, ◌-◌, ◌*◌, ◌≤◌, ◌<◌}
use native.Mathlib.Numerals.{add-one}
use native.Mathlib.Omega.{arith}
use borrow.Author.Tests.{leb-true}
use lib.Dec.{T, leb}
use lib.IntN.{ℤ, pos, negsuc, nat_abs}
use lib.Signed.{le_z, non_neg}
use lib.Ieee.{Float}
use lib.ListN.{length, get_or, take, drop, take-append-drop}
use lib.Seq.{take-suc}
use Rattle.tests.specs.All.{all_at, and_first, and_second}
use Rattle.day.specs.Refusal.{demand_ok, capacity_ok, location_ok, locations_ok}
use Rattle.edits.specs.Total.{total, total_append}
use Rattle.list_changes.specs.Edits.{joined}
use Rattle.loads.specs.Loads.{boxes_of, Loaded}

-- ---- numbers of boxes

-- a number from 0 to n
between : (z : ℤ) (n : ℕ) → (le_z (pos 0) z && le_z z (pos n)) ≡ true → T (non_neg z) × (nat_abs z ≤ n)
between (pos a) n e = (tt, leb-true a n (and_second (leb 0 a) (leb a n) e))
between (negsuc a) n e = absurd (false≢true e)

pub demand_plain : (z : ℤ) → demand_ok z ≡ true → T (non_neg z) × (nat_abs z ≤ 1000000)
unfolding demand_ok
demand_plain z e = between z 1000000 e

pub capacity_plain : (z : ℤ) → capacity_ok z ≡ true → T (non_neg z) × (nat_abs z ≤ 2000000000)
unfolding capacity_ok
capacity_plain z e = between z 2000000000 e

-- ---- sums of them

total_small : (f : ℕ → ℕ) (xs : List ℕ) → ((k : ℕ) → k < length xs → f (get_or xs k 0) ≤ 1000000) → total f xs ≤ 1000000 * length xs
total_small f [] h = omega arith
total_small f (x ∷ xs) h =
    let first : f x ≤ 1000000 = h 0 (omega arith) in
    let rest = total_small f xs (λ k below. h (suc k) (omega arith)) in
    omega arith

-- the load of a list of at most 63 visits
pub load_small : (l : ℕ) (demand : List ℤ) (xs : List ℕ) → Loaded l demand → ((k : ℕ) → k < length xs → get_or xs k 0 < l) → length xs ≤ 63
    → total (boxes_of demand) xs ≤ 63000000
unfolding boxes_of
load_small l demand xs loaded below few =
    let small = total_small (boxes_of demand) xs (λ k h. (demand_plain (get_or demand (get_or xs k 0) (pos 0)) (loaded.in_range (get_or xs k 0) (below k h))).1) in
    omega arith

module _ (f : ℕ → ℕ) where
  -- one visit more
  pub load_more : (xs : List ℕ) (k load more : ℕ) → k < length xs → load ≡ total f (take k xs) → more ≡ f (get_or xs k 0)
      → load + more ≡ total f (take (k + 1) xs)
  load_more xs k load more h e d =
      let parts = total_append f (take k xs) (get_or xs k 0 ∷ []) in
      rw (add-one k, take-suc xs k 0 h) (omega arith)

  -- head and tail
  pub load_parts : (k : ℕ) (xs : List ℕ) → total f (take k xs) + total f (drop k xs) ≡ total f xs
  load_parts k xs = sym (total_append f (take k xs) (drop k xs)) ∙ ap (total f) (take-append-drop k xs)

  -- a head and another's tail
  pub load_joined : (X Y : List ℕ) (cut1 cut2 head1 head2 load2 : ℕ) → head1 ≡ total f (take cut1 X) → head2 ≡ total f (take cut2 Y) → load2 ≡ total f Y
      → head1 + (load2 - head2) ≡ total f (joined X cut1 Y cut2)
  load_joined X Y cut1 cut2 head1 head2 load2 d e g =
      let new = total_append f (take cut1 X) (drop cut2 Y) in
      let parts = load_parts cut2 Y in
      omega arith

-- a running sum can't wrap
pub sum_small : (l : ℕ) (demand : List ℤ) (xs : List ℕ) → Loaded l demand → ((k : ℕ) → k < length xs → get_or xs k 0 < l) → length xs ≤ 63
    → (k load more : ℕ) → k < length xs → load ≡ total (boxes_of demand) (take k xs) → more ≡ boxes_of demand (get_or xs k 0)
    → (load + more ≤ total (boxes_of demand) xs) × (total (boxes_of demand) xs ≤ 63000000)
sum_small l demand xs loaded below few k load more h e d =
    let now = load_more (boxes_of demand) xs k load more h e d in
    let parts = load_parts (boxes_of demand) (k + 1) xs in
    (omega arith, load_small l demand xs loaded below few)

pub head_small : (f : ℕ → ℕ) (k : ℕ) (xs : List ℕ) (head : ℕ) → head ≡ total f (take k xs) → head ≤ total f xs
head_small f k xs head e = let parts = load_parts f k xs in omega arith

-- a day that was not refused is loaded
pub loaded_of : (l : ℕ) (flags : List ℕ) (demand : List ℤ) (service penalty : List Float) → length demand ≡ l
    → locations_ok l flags demand service penalty ≡ true → Loaded l demand
unfolding locations_ok location_ok
loaded_of l flags demand service penalty long fine = record {
  column = long;
  in_range = λ k h. and_first (demand_ok (get_or demand k (pos 0))) _ (all_at (location_ok flags demand service penalty) l k h fine);
}
