-- `broken_candidate`: the candidate is driven from its head on; an empty list costs nothing, and another what the return makes of it.
use mathlib.Core.Path.{sym, ◌∙◌}
use Prim.Native.Nat.{◌≤◌}
use native.Mathlib.Omega.{arith}
use lib.ListN.{length}
use lib.Ieee.{of_bits}
use Rattle.cross_moves.proofs.Stretch.{length-changed, cost_none}
use Rattle.cross_broken_prices.proofs.Prices.{head_kept, cost_on}
use Rattle.broken_heads.specs.Head.{clock_of}
use Rattle.cross_broken_prices.proofs.broken_candidate.Goals as goal

pub returns-then-from-other_to-eq0-clause-head_of : goal.returns-then-from-other_to-eq0-clause-head_of
unfolding of_bits
returns-then-from-other_to-eq0-clause-head_of c =
    let within : c.args.from ≤ length c.args.list.now = omega (arith, c.requires.driven_le_from.1, c.requires.driven_le_from.2) in
    head_kept _ _ _ _ c.requires.broken.0 c.args.list.now c.args.other.now _ c.args.to c.args.other_from c.args.other_to _ _ c.requires.broken.1
    c.requires.driven_le_from.0 within _ c.drive_candidate-drive.ensures.to_head

pub returns-then-from-other_to-eq0-clause-cost_value : goal.returns-then-from-other_to-eq0-clause-cost_value
unfolding of_bits
returns-then-from-other_to-eq0-clause-cost_value c =
    cost_none _ _ _ _ _ _ c.requires.driven_le_from.1 c.requires.driven_le_from.2 c.requires.driven_le_from.4 _ _ c.if-from-other_to-eq0.true

pub travel_time-back-requires : goal.travel_time-back-requires
unfolding clock_of
travel_time-back-requires c =
    (rw c.clock-clock.ensures c.drive_candidate-drive.ensures.to_end.placed, c.requires.driven.0.depot_there)

pub returns-clause-head_of : goal.returns-clause-head_of
returns-clause-head_of c =
    let within : c.args.from ≤ length c.args.list.now = omega (arith, c.requires.driven_le_from.1, c.requires.driven_le_from.2) in
    head_kept _ _ _ _ c.requires.broken.0 c.args.list.now c.args.other.now _ c.args.to c.args.other_from c.args.other_to _ _ c.requires.broken.1
    c.requires.driven_le_from.0 within _ c.drive_candidate-drive.ensures.to_head

pub returns-clause-cost_value : goal.returns-clause-cost_value
returns-clause-cost_value c =
    let within : c.args.from ≤ length c.args.list.now = omega (arith, c.requires.driven_le_from.1, c.requires.driven_le_from.2) in
    let long = length-changed c.args.list.now c.args.other.now _ _ c.args.other_from _ c.requires.driven_le_from.1 c.requires.driven_le_from.2 c.requires.driven_le_from.4 in
    cost_on _ _ _ _ c.requires.broken.0 c.args.list.now c.args.other.now _ c.args.to c.args.other_from c.args.other_to _ _
    c.requires.broken.1 c.requires.driven_le_from.0 within _ _ _ _ _ (omega (arith, long, c.requires.driven_le_from.0))
    c.drive_candidate-drive.ensures.to_end
    (λ e. c.if-from-other_to-eq0.false (sym long ∙ e)) c.distance.ensures c.clock-clock.ensures (rw c.travel_time-back.ensures at c.finish-outcome.ensures) c.end_cost.ensures
