-- `try_reversal`: the delta is tested first; where it counts, the check of the list turned round decides.
use native.Mathlib.Omega.{arith}
use mathlib.Core.Path.{refl}
use Rattle.reversal_places.proofs.Tried.{delta_asks, no_gain, checked}
use Rattle.reversal_places.proofs.try_reversal.Goals as goal

pub two_opt_delta-delta-requires-clause-listed : goal.two_opt_delta-delta-requires-clause-listed
two_opt_delta-delta-requires-clause-listed c =
    rw (c.matrix.ensures.size, c.matrix.ensures.entries) (delta_asks _ _ _ c.requires.worked.0 c.requires.worked.1)

pub two_opt_delta-delta-requires-clause-first_le_last : goal.two_opt_delta-delta-requires-clause-first_le_last
two_opt_delta-delta-requires-clause-first_le_last c =
    (omega (arith, c.requires.first_lt_last.0), c.requires.first_lt_last.1)

pub returns-then-not-gains-clause-value : goal.returns-then-not-gains-clause-value
returns-then-not-gains-clause-value c =
    no_gain _ _ c.requires.worked.0 _ c.args.place _ (rw (← c.matrix.ensures.size, ← c.matrix.ensures.entries) c.two_opt_delta-delta.ensures) _ c.counts_as_gain-gains.ensures.answer
    (c.if-not-gains.true)

pub returns-then-not-gains-clause-list_after : goal.returns-then-not-gains-clause-list_after
returns-then-not-gains-clause-list_after c =
    refl

pub returns-clause-value : goal.returns-clause-value
returns-clause-value c =
    checked _ _ c.requires.worked.0 _ c.args.place _ (rw (← c.matrix.ensures.size, ← c.matrix.ensures.entries) c.two_opt_delta-delta.ensures) _ c.counts_as_gain-gains.ensures.answer
    (c.if-not-gains.false) _ c.turn.ensures.value
