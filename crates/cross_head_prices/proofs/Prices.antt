-- What a list costs whose head is driven: a walk over stretch and tail goes on from where the head ended, and a visit that can't be served loses the rest.
-- Assumes nothing.
use mathlib.Core.Path.{◌≡◌, refl, sym, ap, ◌∙◌}
use mathlib.Core.Bool.{Bool, true, false, cond}
use mathlib.Core.List.{List, ◌∷◌, ◌++◌}
use Prim.Native.Nat.{ℕ, suc, ◌≤◌, ◌<◌}
use native.Mathlib.Omega.{arith}
use lib.ListN.{length, get_or, take, drop, take-append-drop}
use lib.Seq.{slice, slice-cons, take-take, drop-append-le, length-take-le}
use lib.Ieee.{Float}
use Rattle.std.specs.Prelude.{Option, Some, None}
use Rattle.numbers.specs.Operations.{◌⊕◌}
use Rattle.day.specs.Vehicle.{route_cost, allows}
use Rattle.day.specs.declared.vehicle.Van.{Van}
use Rattle.day.specs.declared.vehicle.RouteLimits.{RouteLimits}
use Rattle.edits.proofs.Cuts.{to_end}
use Rattle.labels.specs.Columns.{Columns, leg_in, travel_in}
use Rattle.labels.specs.Walk.{Tour, onward, walk, walk_on, walk_keeps}
use Rattle.break_clock.specs.Schedule.{ended}
use Rattle.evaluation.specs.Route.{tick, end_untaken, home, evaluated, priced_distance, stays_missed, home_missed}
use Rattle.labels.specs.declared.label.Label.{Label}
use Rattle.break_clock.specs.declared.Scheduled.{Scheduled}
use Rattle.heads.specs.Head.{tour_at, Drove}
use Rattle.heads.specs.declared.Head.{Head}
use Rattle.cross_moves.specs.CrossDepot.{price_of}
use Rattle.cross_head_prices.specs.Prices.{ended_price, price_on}

-- ---- a drive over a stretch

-- a stretch cut in two
slice_cut : (list : List ℕ) (from k to : ℕ) → from ≤ k → k ≤ to → to ≤ length list → slice from to list ≡ slice from k list ++ slice k to list
slice_cut list from k to h g t =
    sym (ap (drop from) (rw (← take-take k to list g) (take-append-drop k (take to list))))
    ∙ drop-append-le from (take k list) (slice k to list) (omega (arith, h, length-take-le k list (omega arith)))

module _ (c : Columns) where
  -- a visit that is missed leaves the rest missed
  pub lost_on : (t : Tour (Option Label)) (list : List ℕ) → t.clock ≡ None → (walk c (tick c) t list).clock ≡ None
  lost_on t list h = walk_keeps c (tick c) (λ (k : Option Label). k ≡ None) (stays_missed c) list t h

  module _ (start r : Head) (list : List ℕ) (from to : ℕ) (drove : Drove c start list from to r) where
    -- all are served
    all_driven : to ≤ r.visits → walk c (tick c) (tour_at start) (slice from to list) ≡ tour_at r
    all_driven h =
        let whole : r.visits ≡ to = omega (arith, h, drove.within) in
        rw whole at drove.same

    -- one can't be served
    lost-driven : r.visits < to → to ≤ length list → (walk c (tick c) (tour_at start) (slice from to list)).clock ≡ None
    lost-driven h t = ap (λ (tour : Tour (Option Label)). tour.clock) parts ∙ lost_on (onward c (tick c) (tour_at r) visit) more (sym (drove.lost h))
      where
        visit : ℕ
        visit = get_or list r.visits 0

        more : List ℕ
        more = slice (suc r.visits) to list

        parts : walk c (tick c) (tour_at start) (slice from to list) ≡ walk c (tick c) (tour_at r) (visit ∷ more)
        parts =
            ap (walk c (tick c) (tour_at start))
            (slice_cut list from r.visits to drove.behind (omega (arith, h)) t
            ∙ ap (λ (xs : List ℕ). slice from r.visits list ++ xs) (slice-cons r.visits to list 0 h t))
            ∙ walk_on c (tick c) (tour_at start) (slice from r.visits list) (visit ∷ more)
            ∙ ap (λ (tour : Tour (Option Label)). walk c (tick c) tour (visit ∷ more)) drove.same

  -- the same of a tail
  module _ (start r : Head) (list : List ℕ) (to : ℕ) (drove : Drove c start list to (length list) r) where
    all_tail : length list ≤ r.visits → walk c (tick c) (tour_at start) (drop to list) ≡ tour_at r
    all_tail h = ap (walk c (tick c) (tour_at start)) (sym (to_end to list)) ∙ all_driven start r list to (length list) drove h

    lost_tail : r.visits < length list → (walk c (tick c) (tour_at start) (drop to list)).clock ≡ None
    lost_tail h =
        ap (λ (xs : List ℕ). (walk c (tick c) (tour_at start) xs).clock) (sym (to_end to list))
        ∙ lost-driven start r list to (length list) drove h (omega arith)

-- ---- the price behind a head

-- the price of an end
ended_is : (van : Van) (limits : RouteLimits) (label : Label) (distance back : Float) →
    ended_price van limits label distance back ≡ price_of van (evaluated limits (ended label None distance back))
unfolding ended_price evaluated ended price_of priced_distance
ended_is van limits label distance back = by_test (allows limits distance (label.time ⊕ back))
  where
    by_test : (b : Bool) → cond b (Some (route_cost van (distance ⊕ label.lateness_cost))) None
        ≡ price_of van (cond b (Some (record {
          distance = distance;
          duration = label.time ⊕ back;
          lateness = label.lateness;
          lateness_cost = label.lateness_cost;
        })) None)
    by_test true = refl
    by_test false = refl

module _ (c : Columns) (van : Van) (limits : RouteLimits) (head : Head) (part tail : List ℕ) where
  abbrev driven : Tour (Option Label)
  driven = walk c (tick c) (walk c (tick c) (tour_at head) part) tail

  price_missed : driven.clock ≡ None → None ≡ price_on c van limits head part tail
  unfolding price_on price_of evaluated
  price_missed h = ap (λ (o : Option Scheduled). price_of van (evaluated limits o)) (home_missed c van.depot driven h)

  -- the part can't be served
  price_lost_part : (walk c (tick c) (tour_at head) part).clock ≡ None → None ≡ price_on c van limits head part tail
  price_lost_part h = price_missed (lost_on c (walk c (tick c) (tour_at head) part) tail h)

  module _ (behind : Head) (served : walk c (tick c) (tour_at head) part ≡ tour_at behind) where
    -- the tail can't be served
    price_lost_tail : (walk c (tick c) (tour_at behind) tail).clock ≡ None → None ≡ price_on c van limits head part tail
    price_lost_tail h = price_missed (ap (λ (t : Tour (Option Label)). (walk c (tick c) t tail).clock) served ∙ h)

    -- all are served
    price_ended : (whole : Head) (x back : Float) → walk c (tick c) (tour_at behind) tail ≡ tour_at whole → x ≡ leg_in c whole.place van.depot →
        back ≡ travel_in c whole.place van.depot →
        ended_price van limits whole.label (whole.distance ⊕ x) back ≡ price_on c van limits head part tail
    unfolding price_on home end_untaken
    price_ended whole x back e f g =
        ended_is van limits whole.label (whole.distance ⊕ x) back
        ∙ rw (f, g) (ap (λ (t : Tour (Option Label)). price_of van (evaluated limits (home c van.depot t)))
        (sym (ap (λ (t : Tour (Option Label)). walk c (tick c) t tail) served ∙ e)))

-- the code's two drives, over the stretch and over the tail
module _ (c : Columns) (van : Van) (limits : RouteLimits) (head : Head) (other : List ℕ) (from to : ℕ) (behind : Head)
    (drove : Drove c head other from to behind) where
  pub part_lost : (tail : List ℕ) → behind.visits < to → to ≤ length other → None ≡ price_on c van limits head (slice from to other) tail
  part_lost tail h t = price_lost_part c van limits head (slice from to other) tail (lost-driven c head behind other from to drove h t)

  module _ (served : to ≤ behind.visits) (list : List ℕ) (rest : ℕ) (whole : Head) (drove-on : Drove c behind list rest (length list) whole) where
    pub tail_lost : whole.visits < length list → None ≡ price_on c van limits head (slice from to other) (drop rest list)
    tail_lost h =
        price_lost_tail c van limits head (slice from to other) (drop rest list) behind (all_driven c head behind other from to drove served)
        (lost_tail c behind whole list rest drove-on h)

    pub price_driven : length list ≤ whole.visits → (x back : Float) → x ≡ leg_in c whole.place van.depot →
        back ≡ travel_in c whole.place van.depot → (r : Option Float) → r ≡ ended_price van limits whole.label (whole.distance ⊕ x) back →
        r ≡ price_on c van limits head (slice from to other) (drop rest list)
    price_driven h x back e f r is =
        is ∙ price_ended c van limits head (slice from to other) (drop rest list) behind (all_driven c head behind other from to drove served) whole x back
        (all_tail c behind whole list rest drove-on h) e f
