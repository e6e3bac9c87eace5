-- A head and another list's tail behind it: its visits are visits of the two, so that each is a location and they are at most 63. Assumes nothing.
use mathlib.Core.Path.{◌≡◌}
use mathlib.Core.List.{List, ◌++◌}
use Prim.Native.Nat.{ℕ, ◌+◌, ◌-◌, ◌≤◌}
use native.Mathlib.Omega.{arith}
use lib.ListN.{length, take, drop, length-append, length-drop}
use lib.Seq.{slice, length-take-le}
use Rattle.edits.specs.Total.{total_append}
use Rattle.edits.proofs.Cuts.{to_end}
use Rattle.labels.specs.Columns.{Visits}
use Rattle.list_changes.specs.Edits.{joined}
use Rattle.descent.proofs.Below.{over, Below, below_of}
use Rattle.loads.specs.Loads.{Two}
use Rattle.loads.proofs.Boxes.{load_parts}
use Rattle.loads.proofs.Visits.{visits_of}

module _ (l : ℕ) (X Y : List ℕ) (two : Two l X Y) (cut1 cut2 : ℕ) (within1 : cut1 ≤ length X) where
  pub length-joined : length (joined X cut1 Y cut2) ≡ cut1 + (length Y - cut2)
  length-joined = simp (length-append, length-drop) (omega (arith, length-take-le cut1 X within1))

  pub visits_joined : Visits l (joined X cut1 Y cut2)
  visits_joined =
      let x = below_of l X two.one_below in
      let y = below_of l Y two.other_below in
      let xs = load_parts (over l) cut1 X in
      let ys = load_parts (over l) cut2 Y in
      let new = total_append (over l) (take cut1 X) (drop cut2 Y) in
      let none : Below l (joined X cut1 Y cut2) = omega arith in
      visits_of l (joined X cut1 Y cut2) (omega (arith, length-joined, two.few)) none

-- the parts appended are the list
pub built : (X Y : List ℕ) (cut1 cut2 : ℕ) {head all : List ℕ} → head ≡ slice 0 cut1 X → all ≡ head ++ slice cut2 (length Y) Y → all ≡ joined X cut1 Y cut2
built X Y cut1 cut2 e f = rw (f, e, to_end cut2 Y)
