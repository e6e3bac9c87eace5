-- `improve`: what is worked out before the first move is right, and the loop answers.
use borrow.Author.Rules.{rules}
use mathlib.Core.Path.{ap, ◌∙◌}
use mir.Syntax.{w32}
use mir.ValLaws.{to_z-of_z}
use Rattle.numbers.specs.Floor.{gain_floor}
use Rattle.soft_relocate.specs.SoftRelocate.{soft_relocate_run}
use Rattle.soft_offers.specs.Offers.{search_of, judge_of}
use Rattle.relocation_runs.specs.Runs.{run_by}
use Rattle.loads.proofs.Boxes.{capacity_plain}
use Rattle.soft_relocate.proofs.improve.Goals as goal

pub overflow_cast-setup : goal.overflow_cast-setup
overflow_cast-setup c =
    let e = to_z-of_z w32 c.args.capacity c.ranges.capacity in
    let t = capacity_plain c.args.capacity c.requires.loaded.1 in
    let h = t.1 in
    rw e (t.0, search rules)

pub descend-requires : goal.descend-requires
descend-requires c =
    record {
      prepared = record { formed = c.args.columns.now.formed; depot_there = c.requires.depot_lt_l.0 };
      loaded = c.requires.loaded.0;
      held = c.requires.depot_lt_l.1;
    }

pub returns : goal.returns
unfolding soft_relocate_run run_by search_of judge_of
returns c =
    let floor = c.gain_floor-floor.ensures.answer ∙ ap gain_floor c.scale.ensures in
    rw (to_z-of_z w32 c.args.capacity c.ranges.capacity, floor) at c.descend.ensures
