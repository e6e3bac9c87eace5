-- `list_changes::move_one` meets its contract: whichever place comes first, it exchanges the visit with what lies between. Assumes nothing.
use mathlib.Core.Path.{◌∙◌}
use Rattle.list_changes.proofs.Across.{moved_on, moved_back}
use Rattle.list_changes.proofs.move_one.Goals as goal

pub returns-then-p-q : goal.returns-then-p-q
returns-then-p-q c =
    c.exchange_stretches.ensures ∙ moved_on _ _ _ c.if-p-q.true

pub returns : goal.returns
returns c =
    c.exchange_stretches-2.ensures ∙ moved_back _ _ _ c.if-p-q.false
