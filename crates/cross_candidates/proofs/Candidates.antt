-- What a candidate costs: a walk over head, stretch and tail goes on from where the head ended, and a visit that can't be served loses the rest. Assumes
-- nothing.
use mathlib.Core.Path.{◌≡◌, refl, sym, ap, ◌∙◌}
use mathlib.Core.Logic.{◌≢◌}
use mathlib.Core.Bool.{false}
use mathlib.Core.List.{List, ◌++◌}
use Prim.Native.Nat.{ℕ, zero, suc, ◌+◌, ◌-◌, ◌≤◌, ◌<◌}
use native.Mathlib.Omega.{arith}
use lib.ListN.{length, get_or, take, drop}
use lib.Seq.{slice}
use lib.Ieee.{Float, inf}
use Rattle.std.specs.Prelude.{Option, Some, None}
use Rattle.numbers.specs.Operations.{zero64}
use Rattle.day.specs.declared.vehicle.Van.{Van}
use Rattle.day.specs.declared.vehicle.VehicleBreak.{VehicleBreak}
use Rattle.day.specs.declared.vehicle.RouteLimits.{RouteLimits}
use Rattle.labels.specs.Columns.{Columns}
use Rattle.labels.specs.Walk.{Tour, tour_of, walk, walk_on}
use Rattle.labels.specs.Label.{at_start}
use Rattle.evaluation.specs.Route.{tick, home, unbroken, outcome, evaluated, eval, home_missed}
use Rattle.labels.specs.declared.label.Label.{Label}
use Rattle.break_clock.specs.declared.Scheduled.{Scheduled}
use Rattle.heads.specs.declared.Head.{Head}
use Rattle.heads.proofs.Heads.{walk_further}
use Rattle.kept_heads.specs.Kept.{place_before, head_of, walked, Kept}
use Rattle.kept_heads.specs.declared.KeptHeads.{KeptHeads}
use Rattle.cross_moves.specs.CrossDepot.{price_of, priced_as, amount, replaced}
use Rattle.cross_moves.proofs.Stretch.{length-changed, priced_some}
use Rattle.cross_head_prices.specs.Prices.{price_on}
use Rattle.cross_head_prices.proofs.Prices.{lost_on}
use Rattle.cross_candidates.specs.Candidate.{Unbroken}

-- behind the first k visits the van is at a location
pub place_there : (l depot : ℕ) (list : List ℕ) (k : ℕ) → depot < l → ((i : ℕ) → i < length list → get_or list i 0 < l) → k ≤ length list →
    place_before depot list k < l
place_there l depot list zero h below few = h
place_there l depot list (suc k) h below few = below k (omega arith)

-- ---- the price of a candidate

module _ (c : Columns) (van : Van) (limits : RouteLimits) (unbroken-van : Unbroken van limits) (list other : List ℕ) (from to from2 to2 : ℕ) where
  abbrev part : List ℕ
  part = slice from2 to2 other

  abbrev whole : List ℕ
  whole = replaced list from to part

  abbrev start : Tour (Option Label)
  start = tour_of zero64 (Some at_start) van.depot

  -- head, part and tail, one after another
  in_parts : walk c (tick c) start whole ≡ walk c (tick c) (walk c (tick c) (walk c (tick c) start (take from list)) part) (drop to list)
  in_parts =
      walk_on c (tick c) start (take from list ++ part) (drop to list)
      ∙ ap (λ (t : Tour (Option Label)). walk c (tick c) t (drop to list)) (walk_on c (tick c) start (take from list) part)

  priced_walk : length whole ≢ 0 → price_of van (evaluated limits (home c van.depot (walk c (tick c) start whole))) ≡ priced_as c van whole
  unfolding eval outcome unbroken
  priced_walk o = priced_some c van whole _ limits _ o unbroken-van.limits_are (by_rest limits.rest unbroken-van.no_break) refl
    where
      by_rest : (rest : Option VehicleBreak) → rest ≡ None →
          evaluated limits (home c van.depot (walk c (tick c) start whole)) ≡ evaluated limits (outcome c rest van.depot whole)
      by_rest rest e = rw e

  module _ (ordered : from ≤ to) (within : to ≤ length list) (within2 : to2 ≤ length other) where
    length_whole : length whole ≡ from + (to2 - from2) + (length list - to)
    length_whole = length-changed list other from to from2 to2 ordered within within2

    module _ (heads : KeptHeads) (kept : Kept c van.depot list heads) where
      -- the walk up to the visit that can't be served
      abbrev lost : Tour (Option Label)
      lost = walked c van.depot list (heads.reached + 1)

      head_lost : heads.reached < from → (walk c (tick c) start (take from list)).clock ≡ None
      head_lost h =
          ap (λ (t : Tour (Option Label)). t.clock) (walk_further c start list (heads.reached + 1) from lost (omega (arith, h)) refl)
          ∙ lost_on c lost (slice (heads.reached + 1) from list) (kept.lost (omega (arith, h, ordered, within)))

      -- the head can't be served
      pub cost_lost : heads.reached < from → inf false ≡ amount (priced_as c van whole)
      unfolding amount price_of evaluated
      cost_lost h =
          let part-lost = lost_on c (walk c (tick c) start (take from list)) part (head_lost h) in
          let all-lost = lost_on c (walk c (tick c) (walk c (tick c) start (take from list)) part) (drop to list) part-lost in
          ap (λ (o : Option Scheduled). amount (price_of van (evaluated limits o)))
          (home_missed c van.depot (walk c (tick c) start whole) (ap (λ (t : Tour (Option Label)). t.clock) in_parts ∙ all-lost))
          ∙ ap amount (priced_walk (λ e. omega (arith, e, h, length_whole)))

      -- from the head on
      pub price_on_lem : (head : Head) (price : Option Float) → head ≡ head_of heads van.depot list from → from ≤ heads.reached →
          from + (to2 - from2) + (length list - to) ≢ 0 → price ≡ price_on c van limits head part (drop to list) → price ≡ priced_as c van whole
      unfolding price_on
      price_on_lem head price e h o is =
          is ∙ rw e (ap (λ (t : Tour (Option Label)). price_of van (evaluated limits (home c van.depot t)))
          (ap (λ (t : Tour (Option Label)). walk c (tick c) (walk c (tick c) t part) (drop to list)) (sym (kept.head_at from h)) ∙ sym in_parts)
          ∙ priced_walk (λ z. o (sym length_whole ∙ z)))

-- what the code takes out of a price
pub amount-costs : (price : Option Float) (cost : Float) → price ≡ Some cost → cost ≡ amount price
unfolding amount
amount-costs price cost e = rw e

pub amount_none : (price : Option Float) → price ≡ None → inf false ≡ amount price
unfolding amount
amount_none price e = rw e
