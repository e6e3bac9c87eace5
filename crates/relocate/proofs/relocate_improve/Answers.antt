-- `relocate_improve`: what is worked out before the first move is right, nothing is known yet, and the loop answers.
use borrow.Author.Rules.{rules}
use mir.Syntax.{w32}
use mir.ValLaws.{to_z-of_z}
use Rattle.loads.proofs.Boxes.{capacity_plain}
use Rattle.descent.specs.Engines.{run_of}
use Rattle.offers.specs.Offers.{search_of, judge_of}
use Rattle.relocation_runs.specs.Runs.{run_by}
use Rattle.relocate.proofs.relocate_improve.Goals as goal

pub overflow_cast-setup : goal.overflow_cast-setup
overflow_cast-setup c =
    let e = to_z-of_z w32 c.args.capacity c.ranges.capacity in
    let t = capacity_plain c.args.capacity c.requires.loaded.1 in
    let h = t.1 in
    rw e (t.0, search rules)

pub returns : goal.returns
unfolding run_of run_by search_of judge_of
returns c =
    rw (to_z-of_z w32 c.args.capacity c.ranges.capacity) at c.descend.ensures
