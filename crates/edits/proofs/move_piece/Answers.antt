-- `edits::move_piece` meets its contract: the piece and the visits between it and its new place are neighbours, which change places.
use mathlib.Core.Path.{sym, ◌∙◌}
use Rattle.edits.proofs.Turns.{put_earlier, put_later}
use Rattle.edits.proofs.move_piece.Goals as goal

pub returns-then-to-from : goal.returns-then-to-from
returns-then-to-from c =
    c.exchange_stretches.ensures ∙ sym (put_earlier _ _ _ _ c.if-to-from.true)

pub returns : goal.returns
returns c =
    c.exchange_stretches-2.ensures ∙ sym (put_later _ _ _ _ c.if-to-from.false)
