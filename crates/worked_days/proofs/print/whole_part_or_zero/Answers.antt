-- `worked_days::print::whole_part_or_zero` is safe: the call asks that x is above -1 and below 2^64, and the two tests say so, each number by its bits.
use Rattle.std.proofs.Common.{T, sym, subst}
use lib.Ieee.{of_bits, neg}
use Rattle.worked_days.proofs.print.whole_part_or_zero.Goals as goal

pub truncating_f64_to_u64-requires-clause-lower_bound : goal.truncating_f64_to_u64-requires-clause-lower_bound
unfolding of_bits neg
truncating_f64_to_u64-requires-clause-lower_bound c =
    subst T (sym c.if-x.true) tt

pub truncating_f64_to_u64-requires-clause-upper_bound : goal.truncating_f64_to_u64-requires-clause-upper_bound
unfolding of_bits neg
truncating_f64_to_u64-requires-clause-upper_bound c =
    subst T (sym c.if-x-2.true) tt
