-- `Words::are_known`: the closure asks of each byte what the definition asks.
use Rattle.std.proofs.Common.{rules}
use borrow.Author.Tests.{tests}
use Rattle.std.proofs.lemmas.Iterator.{YieldsList-from_slice}
use Rattle.std.proofs.lemmas.Iterator.Search.{all_from_yields_List}
use Rattle.sample_bytes.specs.Words.{is_known}
use Rattle.sample_bytes.proofs.Words.are_known.Goals as goal

pub returns : goal.returns
returns c =
    all_from_yields_List (is_known c.args.self.now.words.now) _ _ _ c.all.ensures.ran (YieldsList-from_slice c.args.bytes.now c.iter.ensures.rest) (λ x b f called. search (rules, tests))
