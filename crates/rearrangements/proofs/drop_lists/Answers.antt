-- `drop_lists`: fewer than two lists stay as they are.
use lib.ListN.{length}
use Rattle.rearrangements.specs.Rearrange.{lengths_left, number_left}
use borrow.Author.Tests.{lt-ltb, le-ltb}
use mathlib.Core.Path.{refl}
use Rattle.rearrangements.proofs.drop_lists.Goals as goal

pub returns-then-lengths-lt2 : goal.returns-then-lengths-lt2
unfolding lengths_left number_left
returns-then-lengths-lt2 c =
    rw (lt-ltb _ 2 c.if-lengths-lt2.true) (refl, refl)

pub returns : goal.returns
unfolding lengths_left number_left
returns c =
    rw (le-ltb (length c.args.lengths.now) 2 c.if-lengths-lt2.false)
    (c.drop_empty.ensures.count, c.drop_empty.ensures.lengths)
