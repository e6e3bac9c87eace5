-- `Words::are_floats`: the closure asks of each word what the definition asks.
use Rattle.std.proofs.Common.{rules}
use borrow.Author.Tests.{tests}
use Rattle.std.proofs.lemmas.Iterator.{YieldsList-from_slice}
use Rattle.std.proofs.lemmas.Iterator.Search.{all_from_yields_List}
use Rattle.sample_bytes.specs.Words.{is_number}
use Rattle.sample_bytes.proofs.Words.are_floats.Goals as goal

pub returns : goal.returns
unfolding is_number
returns c =
    all_from_yields_List is_number _ _ _ c.all.ensures.ran (YieldsList-from_slice c.args.self.now.words.now c.iter.ensures.rest) (λ x b f called. search (rules, tests))
