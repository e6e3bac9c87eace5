-- A list with a stretch of another in the place of its own: its visits are visits of the two, so that each is a location and they are at most 63; and what
-- the van's answers make of its price. Assumes nothing.
use mathlib.Core.Path.{◌≡◌, refl, ap, ◌∙◌}
use mathlib.Core.Logic.{◌≢◌}
use mathlib.Core.List.{List, [], ◌∷◌, ◌++◌}
use Prim.Native.Nat.{ℕ, ◌+◌, ◌≤◌, ◌-◌}
use native.Mathlib.Omega.{arith}
use lib.ListN.{length, take, drop, length-append, length-drop}
use lib.Seq.{slice, length-take-le, length-slice}
use Rattle.std.specs.Prelude.{Option, Some, Float}
use Rattle.numbers.specs.Operations.{zero64}
use Rattle.day.specs.Vehicle.{limits_of}
use Rattle.day.specs.declared.vehicle.Van.{Van}
use Rattle.day.specs.declared.vehicle.RouteLimits.{RouteLimits}
use Rattle.edits.specs.Total.{total, total_append}
use Rattle.edits.proofs.Cuts.{cut, to_end}
use Rattle.labels.specs.Columns.{Columns, Visits}
use Rattle.evaluation.specs.Route.{eval}
use Rattle.evaluation.specs.declared.route.RouteEval.{RouteEval}
use Rattle.descent.proofs.Below.{over, Below, below_of}
use Rattle.cross_moves.specs.CrossDepot.{price_of, priced_as, replaced}
use Rattle.loads.specs.Loads.{Two}
use Rattle.loads.proofs.Visits.{visits_of}

-- a list cut in three
pub in_three : (f : ℕ → ℕ) (xs : List ℕ) (from to : ℕ) → from ≤ to
    → total f (take from xs) + total f (slice from to xs) + total f (drop to xs) ≡ total f xs
in_three f xs from to h =
    let whole = ap (total f) (cut xs from to h) in
    let two = total_append f (take from xs ++ slice from to xs) (drop to xs) in
    let one = total_append f (take from xs) (slice from to xs) in
    omega arith

-- what a stretch that is replaced takes away, and what comes
pub total-replaced : (f : ℕ → ℕ) (xs : List ℕ) (from to : ℕ) (part : List ℕ) → from ≤ to
    → total f (replaced xs from to part) + total f (slice from to xs) ≡ total f xs + total f part
total-replaced f xs from to part h =
    let parts = in_three f xs from to h in
    let two = total_append f (take from xs ++ part) (drop to xs) in
    let one = total_append f (take from xs) part in
    omega arith

pub length-replaced : (xs : List ℕ) (from to : ℕ) (part : List ℕ) → from ≤ to → to ≤ length xs
    → length (replaced xs from to part) ≡ from + length part + (length xs - to)
length-replaced xs from to part h k = simp (length-append, length-drop) (omega (arith, length-take-le from xs (omega arith)))

module _ (l : ℕ) (X Y : List ℕ) (two : Two l X Y) (from to from2 to2 : ℕ) (ordered : from ≤ to) (within : to ≤ length X) (ordered2 : from2 ≤ to2)
    (within2 : to2 ≤ length Y) where
  pub visits-replaced : Visits l (replaced X from to (slice from2 to2 Y))
  visits-replaced =
      let x = below_of l X two.one_below in
      let y = below_of l Y two.other_below in
      let ys = in_three (over l) Y from2 to2 ordered2 in
      let new = total-replaced (over l) X from to (slice from2 to2 Y) ordered in
      let none : Below l (replaced X from to (slice from2 to2 Y)) = omega arith in
      visits_of l (replaced X from to (slice from2 to2 Y))
      (omega (arith, length-replaced X from to (slice from2 to2 Y) ordered within, length-slice from2 to2 Y within2, two.few)) none

-- the parts appended are the list
pub built : (X part : List ℕ) (from to : ℕ) {head middle all : List ℕ} → head ≡ slice 0 from X → middle ≡ head ++ part
    → all ≡ middle ++ slice to (length X) X → all ≡ replaced X from to part
built X part from to e f g = rw (g, f, e, to_end to X)

-- ---- prices

module _ (c : Columns) (van : Van) (list : List ℕ) where
  pub priced_none : length list ≡ 0 → Some zero64 ≡ priced_as c van list
  unfolding priced_as
  priced_none h = by_list list h
    where
      by_list : (xs : List ℕ) → length xs ≡ 0 → Some zero64 ≡ priced_as c van xs
      by_list [] h = refl
      by_list (x ∷ xs) h = absurd (omega arith)

  pub priced_some : (evaluation : Option RouteEval) (limits : RouteLimits) (r : Option Float) → length list ≢ 0 → limits ≡ limits_of van
      → evaluation ≡ eval c limits van.depot list → r ≡ price_of van evaluation → r ≡ priced_as c van list
  unfolding priced_as
  priced_some evaluation limits r o is-limits is-eval is = by_list list o (is ∙ ap (price_of van) (rw is-limits at is-eval))
    where
      by_list : (xs : List ℕ) → length xs ≢ 0 → r ≡ price_of van (eval c (limits_of van) van.depot xs) → r ≡ priced_as c van xs
      by_list [] o e = absurd (o refl)
      by_list (x ∷ xs) o e = e
