-- `mark_row`: the table is filled in from its start; each load is asked by the prefix loads of both lists.
use mathlib.Core.Path.{refl}
use native.Mathlib.Omega.{arith}
use Rattle.loads.proofs.Visits.{two_turned}
use Rattle.cross_choices.proofs.Deciding.{filled_turns, marked}
use Rattle.cross_choices.proofs.mark_row.Goals as goal

pub loop-j-init : goal.loop-j-init
loop-j-init c =
    record { long = refl; so_far = λ i below. absurd (omega (arith, below)) }

pub start_at-from1-requires : goal.start_at-from1-requires
start_at-from1-requires c =
    omega (arith, c.requires.rowed.0.ordered _ c.loop-j-test.true, c.requires.rowed.0.within _ c.loop-j-test.true, c.requires.loaded.2.few)

pub end_at-to1-requires : goal.end_at-to1-requires
end_at-to1-requires c =
    omega (arith, c.requires.rowed.0.within _ c.loop-j-test.true, c.requires.loaded.2.few)

pub start_at-from2-requires : goal.start_at-from2-requires
start_at-from2-requires c =
    omega (
      arith,
      c.requires.rowed.0.others_ordered _ c.loop-j-test.true,
      c.requires.rowed.0.others_within _
          c.loop-j-test.true,
      c.requires.loaded.2.few,
    )

pub end_at-to2-requires : goal.end_at-to2-requires
end_at-to2-requires c =
    omega (arith, c.requires.rowed.0.others_within _ c.loop-j-test.true, c.requires.loaded.2.few)

pub fits-first-requires-clause-from_le_to : goal.fits-first-requires-clause-from_le_to
fits-first-requires-clause-from_le_to c = (
  rw (c.start_at-from1.ensures, c.end_at-to1.ensures) (c.requires.rowed.0.ordered _ c.loop-j-test.true),
  rw c.end_at-to1.ensures
      (c.requires.rowed.0.within _ c.loop-j-test.true),
  rw (c.start_at-from2.ensures, c.end_at-to2.ensures)
      (c.requires.rowed.0.others_ordered _ c.loop-j-test.true),
  rw c.end_at-to2.ensures
      (c.requires.rowed.0.others_within _ c.loop-j-test.true),
)

pub fits-second-requires-clause-loaded : goal.fits-second-requires-clause-loaded
fits-second-requires-clause-loaded c =
    (c.requires.loaded.0, c.requires.loaded.1.1, two_turned _ _ _ c.requires.loaded.2)

pub fits-second-requires-clause-from_le_to : goal.fits-second-requires-clause-from_le_to
fits-second-requires-clause-from_le_to c = (
  rw (c.start_at-from2.ensures, c.end_at-to2.ensures) (c.requires.rowed.0.others_ordered _ c.loop-j-test.true),
  rw c.end_at-to2.ensures
      (c.requires.rowed.0.others_within _ c.loop-j-test.true),
  rw (c.start_at-from1.ensures, c.end_at-to1.ensures)
      (c.requires.rowed.0.ordered _ c.loop-j-test.true),
  rw c.end_at-to1.ensures (c.requires.rowed.0.within _ c.loop-j-test.true),
)

pub loop-j-preserved : goal.loop-j-preserved
loop-j-preserved c =
    filled_turns _ _ _ _ _ c.loop-j.invariant (omega (arith, c.loop-j-test.true, c.requires.rowed.1))
    (marked _ _ _ _ _ c.args.own c.args.others _ _ _ _ _ _ _ _ _ c.start_at-from1.ensures c.end_at-to1.ensures
    c.start_at-from2.ensures c.end_at-to2.ensures
    c.fits-first.ensures c.fits-second.ensures c.mark.ensures)

pub returns : goal.returns
returns c =
    record { mark_at = λ j below. c.loop-j.invariant.so_far j (omega (arith, below, c.loop-j-test.false)) }
