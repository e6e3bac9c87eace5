-- `start`: the ids so far are those found, and the costs so far are those of the lists with them.
use mathlib.Core.Path.{sym, ap, ◌∙◌}
use Prim.Native.Nat.{◌≤◌, ◌<◌}
use native.Mathlib.Omega.{arith}
use lib.ListN.{length}
use Rattle.day.specs.declared.vehicle.Van.{Van}
use Rattle.cross_starts.proofs.Starting.{mapping_starts, mapping_turns, mapping_ends, costing_starts, costing_turns, costing_ends, cost_found, many_found}
use Rattle.cross_starts.proofs.start.Goals as goal

pub loop-i-init : goal.loop-i-init
loop-i-init c =
    let many = many_found c.args.fleet.now c.args.ids.now in
    (mapping_starts _ _, costing_starts _ _ _ _ (c.requires.prices_len.0 ∙ sym many) (c.requires.prices_len.1 ∙ sym many))

pub loop-i-preserved : goal.loop-i-preserved
loop-i-preserved c =
    let many = many_found c.args.fleet.now c.args.ids.now in
    let there : c.loop-i.i < length c.args.ids.now = omega (arith, c.loop-i-test.true, c.loop-i.invariant.0.same_length) in (
      mapping_turns _ _ _ _ c.loop-i.invariant.0 0 _ there (ap (λ (v : Van). v.id) c.fleet_vehicle-van.ensures),
      costing_turns _ _ _ _ (c.requires.prices_len.0 ∙ sym many) _ _ c.loop-i.invariant.1 (omega (arith, there, many))
          (cost_found _ c.args.ids.now _ _ _ c.loop-i.invariant.0 there _ c.fleet_vehicle-van.ensures _ c.route_cost.ensures),
    )

pub returns : goal.returns
returns c =
    let many = many_found c.args.fleet.now c.args.ids.now in
    let all : length c.args.ids.now ≤ c.loop-i.i = omega (arith, c.loop-i-test.false, c.loop-i.invariant.0.same_length) in (
      mapping_ends _ _ _ _ c.loop-i.invariant.0 all,
      costing_ends _ _ _ _ (c.requires.prices_len.0 ∙ sym many) _ c.loop-i.invariant.1 (omega (arith, all, many)),
    )
