-- `numbers::is_plain` meets its contract: at most 2^40 only the sign is open, and the bits tell it; what is above it, or no number, is not plain.
use mathlib.Core.Path.{sym, subst}
use lib.Dec.{T}
use Rattle.numbers.proofs.Plain.{test_sign, test_most}
use Rattle.numbers.proofs.is_plain.Goals as goal

pub returns-then-x : goal.returns-then-x
returns-then-x c =
    record { answer = test_sign c.args.x (subst T (sym c.well_formed.0.1) tt) c.if-x.true }

pub returns : goal.returns
returns c =
    record { answer = test_most c.args.x c.if-x.false }
