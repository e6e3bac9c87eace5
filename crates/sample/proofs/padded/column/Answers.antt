-- `padded::column`: the calls of the closure change nothing.
use Rattle.std.proofs.Common.{rules, slice_index}
use Rattle.sample.proofs.FromFn.{made_each}
use Rattle.sample.proofs.padded.column.Goals as goal

pub returns-clause-entries : goal.returns-clause-entries
returns-clause-entries g c = λ k h. made_each _ (λ i y. goal.F-post g c.args.entry (slice_index c.args.bytes.now i) y) _ (λ i y q called. search rules) _ _ k h c.from_fn.ensures.items
