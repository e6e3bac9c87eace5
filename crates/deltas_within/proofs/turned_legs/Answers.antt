-- `turned_legs`: the sum so far and the legs still ahead make the whole piece's.
use mathlib.Core.Path.{sym, ◌∙◌}
use Prim.Native.Nat.{◌+◌}
use native.Mathlib.Omega.{arith}
use lib.Ieee.{of_bits}
use Rattle.day.specs.Matrix.{leg}
use Rattle.deltas_within.proofs.Turning.{turning_starts, turning_turns, turning_ends}
use borrow.Author.Rules.{rules}
use Rattle.deltas_within.proofs.turned_legs.Goals as goal

pub loop-k-init : goal.loop-k-init
unfolding of_bits
loop-k-init c =
    (c.requires.first_le_last.0, turning_starts _ _ _ c.requires.first_le_last.1 _ c.requires.first_le_last.0)

pub turned_leg-sum-requires : goal.turned_leg-sum-requires
turned_leg-sum-requires c = (
  rw c.visit_at-x.ensures (c.requires.listed c.loop-k.k (omega arith)),
  rw c.visit_at-y.ensures (c.requires.listed (c.loop-k.k + 1) (omega arith)),
)

pub loop-k-preserved : goal.loop-k-preserved
loop-k-preserved c = (
  search rules,
  rw (c.turned_leg-sum.ensures, c.visit_at-y.ensures, c.visit_at-x.ensures)
      (turning_turns (leg _ _) c.args.list.now _
      c.requires.first_le_last.1 _ _ c.loop-k-test.true
      ∙ c.loop-k.invariant.1),
)

pub returns : goal.returns
returns c =
    sym (turning_ends (leg _ _) c.args.list.now _ c.requires.first_le_last.1 _ _
    c.loop-k.invariant.0 c.loop-k-test.false) ∙ c.loop-k.invariant.1
