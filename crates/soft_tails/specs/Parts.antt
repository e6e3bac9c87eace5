-- The best soft tail exchange of two lists as the functions state it. For src/ and `soft_exchange`; the engine's own definition is in
-- tail_prices/specs/Tails.antt. Assumes nothing.
use Rattle.std.specs.Prelude.{length}
use Rattle.tails.specs.Best.{best_by}
use Rattle.tail_candidates.specs.declared.Choice.{Choice}
use Rattle.tail_candidates.specs.declared.two_lists.TwoLists.{TwoLists}
use Rattle.tail_prices.specs.Changes.{change_of}
use Rattle.soft_tail_candidates.specs.Candidate.{pass_by}

-- the loops over the cuts, as in `tails`
abbrev pub best_of : TwoLists → Choice
best_of two = best_by (change_of two) (pass_by two) (length two.one.now) (length two.other.now) two.terms.floor
