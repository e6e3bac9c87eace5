-- A loop over the cuts behind the visit at k: a turn, and the loads of two lists and of their heads, which can't wrap. Assumes nothing.
use mathlib.Core.Path.{◌≡◌}
use mathlib.Core.List.{List}
use Prim.Native.Nat.{ℕ, suc, ◌+◌, ◌≤◌, ◌<◌}
use native.Mathlib.Numerals.{add-one}
use native.Mathlib.Omega.{arith}
use lib.IntN.{ℤ}
use lib.ListN.{length, get_or, take}
use Rattle.edits.specs.Total.{total}
use Rattle.descent.specs.Order.{range, scan}
use Rattle.descent.proofs.Loops.{scan_turn}
use Rattle.loads.specs.Loads.{boxes_of, Loaded, Two}
use Rattle.loads.proofs.Boxes.{load_small, sum_small, head_small}

pub cut_turn : {B : Type 0} (f : ℕ → B → B) (k e : ℕ) (b newer : B) → suc k < e → newer ≡ f (k + 1) b
    → scan f (range (suc (k + 1)) e) newer ≡ scan f (range (suc k) e) b
cut_turn f k e b newer h q = rw (add-one k) (rw (add-one (suc k)) at (scan_turn f (suc k) e b newer h (rw (add-one k) at q)))

-- two heads are parts of their lists, which are small
pub record Bounded (head1 head2 load1 load2 : ℕ) : Type 0 where
  pub first : head1 ≤ load1
  pub second : head2 ≤ load2
  pub small1 : load1 ≤ 63000000
  pub small2 : load2 ≤ 63000000

module _ (l : ℕ) (demand : List ℤ) (X Y : List ℕ) (loaded : Loaded l demand) (two : Two l X Y) (cut1 head1 load1 load2 k head2 more : ℕ) where
  pub bounded : head1 ≡ total (boxes_of demand) (take cut1 X) → load1 ≡ total (boxes_of demand) X → load2 ≡ total (boxes_of demand) Y
      → k < length Y → head2 ≡ total (boxes_of demand) (take k Y) → more ≡ boxes_of demand (get_or Y k 0) → Bounded head1 (head2 + more) load1 load2
  bounded e1 f1 f2 h e2 d =
      let head = head_small (boxes_of demand) cut1 X head1 e1 in
      let most = load_small l demand X loaded two.one_below (omega (arith, two.few)) in
      let sum = sum_small l demand Y loaded two.other_below (omega (arith, two.few)) k head2 more h e2 d in
      record {
        first = omega (arith, head, f1);
        second = omega (arith, sum.0, f2);
        small1 = omega (arith, most, f1);
        small2 = omega (arith, sum.1, f2);
      }
