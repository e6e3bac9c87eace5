-- What a candidate costs with a break to take: its first visits are those of the list, so that a head of the list is one of it; driven on, it is like the
-- walk over all of it, and ends as that does. Assumes nothing.
use mathlib.Core.Path.{◌≡◌, refl, sym, ap, subst, ◌∙◌}
use mathlib.Core.Logic.{◌≢◌}
use mathlib.Core.List.{List, [], ◌++◌, append_assoc}
use Prim.Native.Nat.{ℕ, ◌≤◌}
use native.Mathlib.Omega.{arith}
use lib.ListN.{length, take, drop}
use lib.Seq.{slice, take-append-le, take-take, take-length, length-take-le}
use lib.Ieee.{Float}
use Rattle.std.specs.Prelude.{Option, Some}
use Rattle.numbers.specs.Operations.{◌⊕◌, zero64}
use Rattle.day.specs.declared.vehicle.Van.{Van}
use Rattle.day.specs.declared.vehicle.RouteLimits.{RouteLimits}
use Rattle.day.specs.declared.vehicle.VehicleBreak.{VehicleBreak}
use Rattle.labels.specs.Columns.{Columns, leg_in, travel_in}
use Rattle.labels.specs.Walk.{Tour, tour_of, walk}
use Rattle.break_clock.specs.Schedule.{begun, tick_break, finished, home_break, scheduled}
use Rattle.break_clock.specs.declared.BreakClock.{BreakClock}
use Rattle.break_clock.specs.declared.Scheduled.{Scheduled}
use Rattle.evaluation.specs.Route.{outcome, evaluated, eval}
use Rattle.broken_heads.specs.Head.{clock_of, tour_at, Alike, HeadOf, Drove}
use Rattle.broken_heads.specs.declared.BrokenHead.{BrokenHead}
use Rattle.broken_heads.proofs.Heads.{head_on}
use Rattle.cross_moves.specs.CrossDepot.{price_of, priced_as, amount, replaced}
use Rattle.cross_moves.proofs.Stretch.{priced_some}
use Rattle.cross_broken_prices.specs.Broken.{Broken}

module _ (c : Columns) (van : Van) (limits : RouteLimits) (pause : VehicleBreak) (broken : Broken van limits pause) where
  module _ (list other : List ℕ) (from to from2 to2 : ℕ) where
    abbrev part : List ℕ
    part = slice from2 to2 other

    abbrev whole : List ℕ
    whole = replaced list from to part

    abbrev start : Tour BreakClock
    start = tour_of zero64 (begun pause van.depot) van.depot

    same_head : (xs ys : List ℕ) (k : ℕ) (head : BrokenHead) → take k ys ≡ take k xs → HeadOf c pause van.depot ys k head →
        HeadOf c pause van.depot xs k head
    same_head xs ys k head e is = record {
      placed = is.placed;
      counted = is.counted;
      alike = subst (λ (zs : List ℕ). Alike c (walk c (tick_break c) start zs) (tour_at head)) e is.alike;
    }

    priced_walk : length whole ≢ 0 → price_of van (evaluated limits (home_break c van.depot (walk c (tick_break c) start whole))) ≡ priced_as c van whole
    unfolding eval outcome scheduled
    priced_walk o = priced_some c van whole _ limits _ o broken.limits_are (by_rest limits.rest broken.has_break) refl
      where
        by_rest : (rest : Option VehicleBreak) → rest ≡ Some pause →
            evaluated limits (home_break c van.depot (walk c (tick_break c) start whole)) ≡ evaluated limits (outcome c rest van.depot whole)
        by_rest rest e = rw e

    -- the first visits are those of the list
    shares : (k : ℕ) → k ≤ from → from ≤ length list → take k whole ≡ take k list
    shares k h g =
        let long : k ≤ length (take from list) = omega (arith, h, length-take-le from list g) in
        ap (take k) (append_assoc (take from list) part (drop to list))
        ∙ take-append-le k (take from list) (part ++ drop to list) long ∙ take-take k from list h

    module _ (driven : ℕ) (head : BrokenHead) (is-head : HeadOf c pause van.depot list driven head) (behind : driven ≤ from) (within : from ≤ length list)
      where
        of_whole : HeadOf c pause van.depot whole driven head
        of_whole = same_head whole list driven head (sym (shares driven behind within)) is-head

        -- the head before the stretch
        pub head_kept : (next : BrokenHead) → Drove c head whole driven from next → HeadOf c pause van.depot list from next
        head_kept next drove =
            same_head list whole from next (shares from (omega arith) within) (head_on c pause van.depot whole driven from head next behind of_whole drove)

        -- the return, from where the drive ended
        pub cost_on : (end : BrokenHead) (clock : BreakClock) (x r : Float) (o : Option Scheduled) → driven ≤ length whole →
            Drove c head whole driven (length whole) end → length whole ≢ 0 →
            x ≡ leg_in c end.place van.depot → clock ≡ clock_of end → o ≡ finished clock (end.distance ⊕ x) (travel_in c clock.prev van.depot) →
            r ≡ amount (price_of van (evaluated limits o)) → r ≡ amount (priced_as c van whole)
        unfolding home_break
        cost_on end clock x r o few drove some e k f is =
            is ∙ ap (λ (p : Option Scheduled). amount (price_of van (evaluated limits p))) (f ∙ rw (e, k) (sym driven_whole)) ∙ ap amount (priced_walk some)
          where
            driven_whole : home_break c van.depot (walk c (tick_break c) start whole) ≡ home_break c van.depot (tour_at end)
            driven_whole =
                ap (λ (xs : List ℕ). home_break c van.depot (walk c (tick_break c) start xs)) (sym (take-length whole))
                ∙ (head_on c pause van.depot whole driven (length whole) head end few of_whole drove).alike.same_end van.depot []
