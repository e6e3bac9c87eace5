-- `best_between`: a list has no move into itself, an empty one none at all.
use mathlib.Core.Path.{sym, ◌∙◌}
use Rattle.pairs.proofs.Taken.{best-same_list}
use Rattle.relocations.proofs.Searching.{best_empty}
use Rattle.relocations.proofs.best_between.Goals as goal

pub returns-then-from-to-clause-best : goal.returns-then-from-to-clause-best
returns-then-from-to-clause-best g c =
    rw (c.none_below.ensures, c.bound.ensures) (best-same_list _ _ _ _ _ _ c.if-from-to.true)

pub returns-then-length_of-eq0-clause-best : goal.returns-then-length_of-eq0-clause-best
returns-then-length_of-eq0-clause-best g c =
    let laid = g.met.E.PairSearch.laid _ _ _ c.requires.is_ready in
    rw (c.none_below-then-length_of-eq0.ensures, c.bound-then-length_of-eq0.ensures)
    (best_empty (g.E.PairSearch.terms c.args.engine.now) _ _ laid _ _ c.if-from-to.false (sym c.length_of.ensures.0 ∙ c.if-length_of-eq0.true))
