-- `sample_bytes::is_float` meets its contract: its two tests are the two fields of a NaN's bits.
use Rattle.std.proofs.Common.{◌≡◌, true, false, not, refl, eq-eqb, ne_eqb}
use lib.Ieee.{nan_bits}
use Rattle.sample_bytes.proofs.is_float.Goals as goal

twice : (b : _) → b ≡ not (not b)
twice true = refl
twice false = refl

pub returns-then-bits-eq2047 : goal.returns-then-bits-eq2047
unfolding nan_bits
returns-then-bits-eq2047 c =
    rw (eq-eqb _ _ c.if-bits-eq2047.true) (twice _)

pub returns : goal.returns
unfolding nan_bits
returns c =
    rw (ne_eqb _ _ c.if-bits-eq2047.false) refl
