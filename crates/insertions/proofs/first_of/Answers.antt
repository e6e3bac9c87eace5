-- `first_of`: each arm is the definition's case.
use borrow.Author.Tests.{lt-ltb, le-ltb}
use Rattle.insertions.specs.Cache.{first_of, wins}
use Rattle.insertions.proofs.first_of.Goals as goal

pub returns-then-new-known-2 : goal.returns-then-new-known-2
unfolding first_of wins
returns-then-new-known-2 c =
    rw (lt-ltb _ _ c.if-new-known.true, c.if-new-known-2.true)

pub returns-then-new-known : goal.returns-then-new-known
unfolding first_of wins
returns-then-new-known c =
    rw (lt-ltb _ _ c.if-new-known.true, c.if-new-known-2.false)

pub returns-then-new-known-3 : goal.returns-then-new-known-3
unfolding first_of wins
returns-then-new-known-3 c =
    rw (le-ltb _ _ c.if-new-known.false, c.if-new-known-3.true)

pub returns : goal.returns
unfolding first_of wins
returns c =
    rw (le-ltb _ _ c.if-new-known.false, c.if-new-known-3.false)
