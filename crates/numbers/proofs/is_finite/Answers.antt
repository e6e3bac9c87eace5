-- `numbers::is_finite` meets its contract: a finite number less itself is 0, and a NaN or an infinity less itself is a NaN.
use Rattle.numbers.proofs.Plain.{test_finite}
use Rattle.numbers.proofs.is_finite.Goals as goal

pub returns : goal.returns
returns c =
    record { answer = test_finite c.args.x }
