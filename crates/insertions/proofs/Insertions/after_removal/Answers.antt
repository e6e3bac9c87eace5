-- `after_removal`: the closure's answer is the definition's, of each visit.
use borrow.Author.Rules.{rules}
use Rattle.insertions.proofs.Insertions.after_removal.Goals as goal

pub returns : goal.returns
returns c =
    record {
      here = λ v h. let changed = c.update.ensures.here v h in search rules;
      behind = c.update.ensures.behind;
      others = c.update.ensures.others;
    }
