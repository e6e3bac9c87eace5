-- `OrOpt::first_move`: the first move from here on is the first from `first` on; a length that has none is passed over.
use mathlib.Core.Path.{sym, ap, ◌∙◌}
use Rattle.engine.specs.Best.{found_as}
use Rattle.segments.specs.Segments.{placed}
use Rattle.or_opt.proofs.Sizes.{size-moves, size_passed, sizes_done}
use Rattle.or_opt.proofs.OrOpt.first_move.Goals as goal

pub returns-in-Some : goal.returns-in-Some
returns-in-Some c =
    rw (← c.loop-size.invariant) (size-moves _ _ _ _ _ _ c.loop-size-test.true c.requires (ap (found_as placed) (sym c.in-Some.is) ∙ c.best_piece-best.ensures))

pub loop-size-preserved : goal.loop-size-preserved
loop-size-preserved c =
    let nothing = ap (found_as placed) (sym c.in_default.is) ∙ c.best_piece-best.ensures in
    size_passed _ c.args.self.now.terms _ _ c.loop-size-test.true nothing ∙ c.loop-size.invariant

pub returns : goal.returns
returns c =
    rw (← c.loop-size.invariant) (sizes_done _ _ _ _ _ c.loop-size-test.false)
