-- `sample_bytes::float` is safe: the word was tested not to be a NaN's.
use Rattle.std.proofs.Common.{T, sym, subst}
use Rattle.sample_bytes.proofs.float.Goals as goal

pub float_from_bits-result : goal.float_from_bits-result
float_from_bits-result c =
    subst T c.is_float.ensures (subst T (sym c.if-is_float.true) tt)
