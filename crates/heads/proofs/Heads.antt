-- A head is driven on from where it ended, because a walk over a list goes on from where its first part ended. Assumes nothing.
use Prim.Native.Nat.{ℕ, ◌+◌, ◌<◌, ◌≤◌}
use native.Mathlib.Numerals.{add-one}
use native.Mathlib.Omega.{arith}
use borrow.Author.Tests.{ltb-false}
use mathlib.Core.Path.{◌≡◌, refl, sym, ap, ◌∙◌}
use mathlib.Core.Bool.{Bool, true, false, cond}
use mathlib.Core.List.{List, [], ◌∷◌, ◌++◌}
use lib.Dec.{ltb}
use lib.ListN.{length, get_or, take, take-append-drop}
use lib.Seq.{slice, take-suc, take-take, drop-append-le, length-take-le}
use lib.Ieee.{Float}
use Rattle.std.specs.Prelude.{Option, Some, None}
use Rattle.numbers.specs.Operations.{◌⊕◌, zero64}
use Rattle.day.specs.declared.vehicle.VehicleBreak.{VehicleBreak}
use Rattle.labels.specs.Columns.{Columns, leg_in}
use Rattle.labels.specs.Walk.{Tour, tour_of, onward, walk, walk_on}
use Rattle.labels.specs.Label.{at_start}
use Rattle.evaluation.specs.Route.{tick}
use Rattle.labels.specs.declared.label.Label.{Label}
use Rattle.heads.specs.Head.{at_depot, tour_at, shared, nearest, Driven, Drove}
use Rattle.heads.specs.declared.Head.{Head}

-- ---- a head

-- the van at the depot is a head of any list
pub depot_driven : (c : Columns) (rest : Option VehicleBreak) (depot : ℕ) (list : List ℕ) → depot < c.l → Driven c rest depot list (at_depot depot)
unfolding at_depot
depot_driven c rest depot list h = record { few = omega arith; placed = h; same = refl; unbroken = λ pause e. refl }

-- a start that is near enough is a head
pub nearest_driven : (c : Columns) (rest : Option VehicleBreak) (depot to : ℕ) (list : List ℕ) (head : Head) → depot < c.l → Driven c rest depot list head →
    Driven c rest depot list (nearest head depot to) × ((nearest head depot to).visits ≤ to)
unfolding nearest at_depot
nearest_driven c rest depot to list head h driven = go (ltb to head.visits) refl
  where
    go : (b : Bool) → ltb to head.visits ≡ b →
        Driven c rest depot list (cond b (at_depot depot) head) × ((cond b (at_depot depot) head).visits ≤ to)
    go true e = (depot_driven c rest depot list h, omega arith)
    go false e = (driven, ltb-false to head.visits e)

-- with a break to take none is shared
pub none_shared : (rest : Option VehicleBreak) (to : ℕ) (pause : VehicleBreak) → rest ≡ Some pause → shared rest to ≡ 0
unfolding shared
none_shared rest to pause e = rw e

pub few-shared : (rest : Option VehicleBreak) (to : ℕ) → shared rest to ≤ to
unfolding shared
few-shared None to = omega arith
few-shared (Some pause) to = omega arith

-- ---- a drive

-- a stretch with one visit more
stretch_more : (list : List ℕ) (from i : ℕ) → from ≤ i → i < length list → slice from (i + 1) list ≡ slice from i list ++ (get_or list i 0 ∷ [])
stretch_more list from i h k =
    rw (add-one i, take-suc list i 0 k) (drop-append-le from (take i list) (get_or list i 0 ∷ []) (omega (arith, h, k, length-take-le i list (omega arith))))

-- one visit more
pub drive_turn : (c : Columns) (start : Tour (Option Label)) (list : List ℕ) (from i : ℕ) (label next : Label) (distance x : Float) (place : ℕ) → from ≤ i →
    i < length list → walk c (tick c) start (slice from i list) ≡ tour_of distance (Some label) place →
    x ≡ leg_in c place (get_or list i 0) → Some next ≡ tick c (Some label) place (get_or list i 0) →
    walk c (tick c) start (slice from (i + 1) list) ≡ tour_of (distance ⊕ x) (Some next) (get_or list i 0)
drive_turn c start list from i label next distance x place g h so_far e f =
    ap (walk c (tick c) start) (stretch_more list from i g h) ∙ walk_on c (tick c) start (slice from i list) (get_or list i 0 ∷ [])
    ∙ ap (λ (t : Tour (Option Label)). onward c (tick c) t (get_or list i 0)) so_far ∙ rw (e, f)

front_and_on : (list : List ℕ) (i k : ℕ) → i ≤ k → take i list ++ slice i k list ≡ take k list
front_and_on list i k h = rw (← take-take i k list h) (take-append-drop i (take k list))

-- a walk up to i, and on from there
pub walk_further : (c : Columns) (start : Tour (Option Label)) (list : List ℕ) (i k : ℕ) (t : Tour (Option Label)) → i ≤ k →
    walk c (tick c) start (take i list) ≡ t → walk c (tick c) start (take k list) ≡ walk c (tick c) t (slice i k list)
walk_further c start list i k t h e =
    ap (walk c (tick c) start) (sym (front_and_on list i k h))
    ∙ walk_on c (tick c) start (take i list) (slice i k list)
    ∙ ap (λ (u : Tour (Option Label)). walk c (tick c) u (slice i k list)) e

-- from the nearest start on, a head is driven
pub drives_on : (c : Columns) (rest : Option VehicleBreak) (depot to end : ℕ) (list : List ℕ) (head start r : Head) → depot < c.l → to ≤ length list →
    Driven c rest depot list head → end ≡ shared rest to → start ≡ nearest head depot end → Drove c start list start.visits end r →
    Driven c rest depot list r × (r.visits ≤ to)
drives_on c rest depot to end list head start r h t driven e f drove =
    let near = nearest_driven c rest depot end list head h driven in
    let start-driven : Driven c rest depot list start = rw f near.0 in
    let few = few-shared rest to in (
      record {
        few = omega (arith, drove.within, e, few, t);
        placed = drove.placed;
        same = walk_further c (tour_of zero64 (Some at_start) depot) list start.visits r.visits (tour_at start) drove.behind start-driven.same
            ∙ drove.same;
        unbroken = λ pause g. let none = none_shared rest to pause g in omega (arith, drove.within, e, none);
      },
      omega (arith, drove.within, e, few),
    )
