-- Lists of at most 63 locations: one that is made of the visits of such lists is such a list, since no visit of theirs is over the last location. Assumes
-- nothing.
use mathlib.Core.Path.{◌≡◌, ap}
use mathlib.Core.List.{List}
use Prim.Native.Nat.{ℕ, ◌≤◌, ◌<◌}
use native.Mathlib.Omega.{arith}
use borrow.Author.Tests.{lt-leb}
use lib.ListN.{length}
use Rattle.edits.specs.Total.{bit}
use Rattle.edits.specs.Edits.{inserted, without}
use Rattle.edits.proofs.Kept.{total-inserted, total-without, length_inserted, length_without}
use Rattle.labels.specs.Columns.{Visits}
use Rattle.descent.proofs.Below.{over, Below, below_of, below_at}
use Rattle.loads.specs.Loads.{Two}

pub visits_of : (l : ℕ) (xs : List ℕ) → length xs ≤ 63 → Below l xs → Visits l xs
visits_of l xs short none = record { few = short; below = λ k h. below_at l xs k 0 none h }

-- ---- a visit put in, or taken out

pub visits_inserted : (l : ℕ) (xs : List ℕ) (visit place : ℕ) → Visits l xs → length xs < 63 → visit < l → Visits l (inserted xs visit place)
visits_inserted l xs visit place v short there =
    let this : over l visit ≡ 0 = ap bit (lt-leb l visit there) in
    visits_of l (inserted xs visit place) (omega (arith, length_inserted xs visit place))
    (omega (arith, total-inserted (over l) xs visit place, below_of l xs v.below))

pub visits_without : (l : ℕ) (xs : List ℕ) (position : ℕ) → Visits l xs → position < length xs → Visits l (without xs position)
visits_without l xs position v h =
    visits_of l (without xs position) (omega (arith, length_without xs position h, v.few))
    (omega (arith, total-without (over l) xs position h, below_of l xs v.below))

-- ---- two lists of the tables

module _ (l : ℕ) (X Y : List ℕ) (two : Two l X Y) where
  pub two_turned : Two l Y X
  two_turned = record { one_below = two.other_below; other_below = two.one_below; few = omega (arith, two.few) }

  pub visits_first : Visits l X
  visits_first = record { few = omega (arith, two.few); below = two.one_below }

  pub visits_second : Visits l Y
  visits_second = record { few = omega (arith, two.few); below = two.other_below }
