-- A list with a stretch of another in the place of its own: what it has in all, how long it is, and what the van's answers make of its price. Assumes
-- nothing.
use mathlib.Core.Path.{◌≡◌, refl, ap, ◌∙◌}
use mathlib.Core.Logic.{◌≢◌}
use mathlib.Core.List.{List, [], ◌∷◌, ◌++◌}
use Prim.Native.Nat.{ℕ, ◌+◌, ◌≤◌, ◌-◌}
use native.Mathlib.Omega.{arith}
use lib.ListN.{length, take, drop, length-append, length-drop}
use lib.Seq.{slice, length-take-le, length-slice}
use Rattle.std.specs.Prelude.{Option, Some, Float}
use Rattle.numbers.specs.Operations.{zero64}
use Rattle.day.specs.Vehicle.{limits_of}
use Rattle.day.specs.declared.vehicle.Van.{Van}
use Rattle.day.specs.declared.vehicle.RouteLimits.{RouteLimits}
use Rattle.edits.specs.Total.{total, total_append}
use Rattle.edits.proofs.Cuts.{cut}
use Rattle.labels.specs.Columns.{Columns}
use Rattle.evaluation.specs.Route.{eval}
use Rattle.evaluation.specs.declared.route.RouteEval.{RouteEval}
use Rattle.cross_moves.specs.CrossDepot.{price_of, priced_as, amount, replaced}

-- a list cut in three
pub in_three : (f : ℕ → ℕ) (xs : List ℕ) (from to : ℕ) → from ≤ to
    → total f (take from xs) + total f (slice from to xs) + total f (drop to xs) ≡ total f xs
in_three f xs from to h =
    let whole = ap (total f) (cut xs from to h) in
    let two = total_append f (take from xs ++ slice from to xs) (drop to xs) in
    let one = total_append f (take from xs) (slice from to xs) in
    omega arith

-- what a stretch that is replaced takes away, and what comes
pub total-replaced : (f : ℕ → ℕ) (xs : List ℕ) (from to : ℕ) (part : List ℕ) → from ≤ to
    → total f (replaced xs from to part) + total f (slice from to xs) ≡ total f xs + total f part
total-replaced f xs from to part h =
    let parts = in_three f xs from to h in
    let two = total_append f (take from xs ++ part) (drop to xs) in
    let one = total_append f (take from xs) part in
    omega arith

length-replaced : (xs : List ℕ) (from to : ℕ) (part : List ℕ) → from ≤ to → to ≤ length xs
    → length (replaced xs from to part) ≡ from + length part + (length xs - to)
length-replaced xs from to part h k = simp (length-append, length-drop) (omega (arith, length-take-le from xs (omega arith)))

-- ---- prices

module _ (c : Columns) (van : Van) where
  priced_none : (list : List ℕ) → length list ≡ 0 → Some zero64 ≡ priced_as c van list
  unfolding priced_as
  priced_none [] h = refl
  priced_none (visit ∷ rest) h = absurd (omega arith)

  pub priced_some : (list : List ℕ) (evaluation : Option RouteEval) (limits : RouteLimits) (r : Option Float) → length list ≢ 0 → limits ≡ limits_of van
      → evaluation ≡ eval c limits van.depot list → r ≡ price_of van evaluation → r ≡ priced_as c van list
  unfolding priced_as
  priced_some list evaluation limits r o is-limits is-eval is = by_list list o (is ∙ ap (price_of van) (rw is-limits at is-eval))
    where
      by_list : (xs : List ℕ) → length xs ≢ 0 → r ≡ price_of van (eval c (limits_of van) van.depot xs) → r ≡ priced_as c van xs
      by_list [] o e = absurd (o refl)
      by_list (x ∷ xs) o e = e

-- by the ends of the stretches
module _ (list other : List ℕ) (from to from2 to2 : ℕ) (ordered : from ≤ to) (within : to ≤ length list) (within2 : to2 ≤ length other) where
  pub length-changed : length (replaced list from to (slice from2 to2 other)) ≡ from + (to2 - from2) + (length list - to)
  length-changed =
      length-replaced list from to (slice from2 to2 other) ordered within
      ∙ ap (λ (n : ℕ). from + n + (length list - to)) (length-slice from2 to2 other within2)

  -- no visit is left
  pub cost_none : (c : Columns) (van : Van) → from + (to2 - from2) + (length list - to) ≡ 0 →
      zero64 ≡ amount (priced_as c van (replaced list from to (slice from2 to2 other)))
  unfolding amount
  cost_none c van h = ap amount (priced_none c van (replaced list from to (slice from2 to2 other)) (length-changed ∙ h))
