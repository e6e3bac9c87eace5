-- `sample_bytes::same` is safe: what equals a number is no NaN.
use Rattle.std.proofs.Common.{T, sym, subst}
use Rattle.numbers.proofs.Total.{le_left, le_right, eq→le}
use Rattle.sample_bytes.proofs.same.Goals as goal

pub float_to_bits-result : goal.float_to_bits-result
float_to_bits-result c =
    le_left _ _ (eq→le c.args.x c.args.y (subst T (sym c.if-x-y.true) tt))

pub float_to_bits-result-then-x-y : goal.float_to_bits-result-then-x-y
float_to_bits-result-then-x-y c =
    le_right _ _ (eq→le c.args.x c.args.y (subst T (sym c.if-x-y.true) tt))
