-- `change_whole`: each new list's cost is its callee's answer.
use Rattle.tail_prices.proofs.Behind.{same-change}
use Rattle.tail_prices.proofs.change_whole.Goals as goal

pub returns : goal.returns
returns c =
    same-change c.args.two.now c.args.figures _ _ c.requires.priced _ _ _ c.joined_cost-new1.ensures c.joined_cost-new2.ensures c.change_by.ensures
