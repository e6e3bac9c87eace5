-- `padded::depots`: each call of the closure answers the byte's entry.
use Rattle.std.proofs.Common.{rules, ◌∙◌, ap, Some}
use Rattle.sample.proofs.padded.depots.Goals as goal

pub returns-clause-entries : goal.returns-clause-entries
returns-clause-entries c = λ k h. let (x, there, called) = c.column.ensures.entries k h in there ∙ ap Some (search rules)
