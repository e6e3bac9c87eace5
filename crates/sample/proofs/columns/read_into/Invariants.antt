-- `columns::read_into`: the column has an entry more for each byte so far.
use Rattle.std.proofs.Common.{◌≡◌, ◌≤◌, ◌+◌, length}
use Rattle.arrayvec.specs.ArrayVec.{array_vec_len}
use Rattle.sample.proofs.columns.read_into.Given as goal

abbrev pub invariant-loop-byte : goal.invariant-loop-byte
invariant-loop-byte g l =
    (array_vec_len l.column ≡ array_vec_len l.initial.column + l.byte-index) × (l.byte-index ≤ l.byte-index-end) × (l.byte-index-end ≡ length l.bytes)
