-- `plain_fours`: the numbers passed are plain.
use borrow.Author.Rules.{rules}
use Rattle.tests.specs.All.{all_none, all_four_lem, yes}
use mathlib.Core.Path.{ap}
use mathlib.Core.Bool.{not}
use Rattle.day_tests.proofs.plain_fours.Goals as goal

pub loop-i-init : goal.loop-i-init
loop-i-init c =
    (search rules, all_none _)

pub returns-then-not-four_plain : goal.returns-then-not-four_plain
returns-then-not-four_plain c =
    c.loop-i.invariant

pub loop-i-preserved : goal.loop-i-preserved
loop-i-preserved c =
    (search rules, all_four_lem _ c.loop-i.i c.loop-i.invariant.1 (yes _ _ c.four_plain.ensures (ap not c.if-not-four_plain.false)))

pub returns : goal.returns
returns c =
    c.loop-i.invariant
