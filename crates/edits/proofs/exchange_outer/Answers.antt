-- `edits::exchange_outer` meets its contract: its four reversals make the exchange.
use Rattle.edits.proofs.Turns.{outer_by_reversals}
use Rattle.edits.proofs.exchange_outer.Goals as goal

pub returns : goal.returns
returns c =
    rw (c.reverse-4.ensures, c.reverse-3.ensures, c.reverse-2.ensures, c.reverse.ensures)
    (outer_by_reversals _ _ _ _ _ c.requires.from_le_a.0 c.requires.from_le_a.1 c.requires.from_le_a.2 c.requires.to_in_bounds)
