-- `make_moves`: the moves made and the run that is left are the whole run; the table of pairs is right of the lists as they stand.
use mathlib.Core.Path.{refl, ◌∙◌}
use native.Mathlib.Omega.{arith}
use Rattle.list_changes.proofs.Edited.{edited_none}
use Rattle.descent.proofs.Going.{going_starts}
use Rattle.pairs.proofs.Least.{is_none, is_some}
use Rattle.pairs.proofs.Going.{edited_again}
use Rattle.relocations.proofs.Searching.{moved_right}
use Rattle.relocation_runs.proofs.Going.{least-taken, least-there, answers_settled, answers_stopped, goes_on}
use Rattle.relocation_runs.proofs.make_moves.Goals as goal

pub loop-best-init : goal.loop-best-init
loop-best-init g c =
    let laid = g.met.E.PairSearch.laid _ _ _ c.requires.is_ready in
    (going_starts _ _ _, edited_none _ _ laid, c.requires.right, refl, c.requires.is_ready)

pub returns-then-best-eq0 : goal.returns-then-best-eq0
returns-then-best-eq0 g c =
    let sound = g.met.E.PairSearch.sound _ _ _ c.requires.is_ready in
    let found = least-taken (g.E.PairSearch.terms c.args.engine.now) sound _ c.loop-best.invariant.3 _ _ _ c.loop-best.invariant.2 _ _ c.bound.ensures c.best-best.ensures in
    answers_settled (g.E.PairSearch.terms c.args.engine.now) sound _ _ _ _ c.loop-best.invariant.0 _ found _ _ _ _ c.loop-best.invariant.1 (is_none _ c.if-best-eq0.true)

pub returns-then-limit-moves : goal.returns-then-limit-moves
returns-then-limit-moves g c =
    let sound = g.met.E.PairSearch.sound _ _ _ c.requires.is_ready in
    let found = least-taken (g.E.PairSearch.terms c.args.engine.now) sound _ c.loop-best.invariant.3 _ _ _ c.loop-best.invariant.2 _ _ c.bound.ensures c.best-best.ensures in
    answers_stopped (g.E.PairSearch.terms c.args.engine.now) sound _ _ _ _ c.loop-best.invariant.0 _ found _ _ _ _ c.loop-best.invariant.1 (is_some _ c.if-best-eq0.false)
    c.if-limit-moves.true

pub make_move-requires-clause-relocates : goal.make_move-requires-clause-relocates
make_move-requires-clause-relocates g c =
    let sound = g.met.E.PairSearch.sound _ _ _ c.requires.is_ready in
    let found = least-taken (g.E.PairSearch.terms c.args.engine.now) sound _ c.loop-best.invariant.3 _ _ _ c.loop-best.invariant.2 _ _ c.bound.ensures c.best-best.ensures in
    least-there (g.E.PairSearch.terms c.args.engine.now) sound _ _ c.loop-best.invariant.1.laid _ found (is_some _ c.if-best-eq0.false)

pub search_changed-requires-clause-right : goal.search_changed-requires-clause-right
search_changed-requires-clause-right g c =
    let sound = g.met.E.PairSearch.sound _ _ _ c.requires.is_ready in
    rw (c.make_move.ensures.still.0, c.loop-best.invariant.3)
    (moved_right (g.E.PairSearch.terms c.args.engine.now) sound _ _ _ _ _ _ _ _ _ c.make_move.ensures.edited c.loop-best.invariant.2)

pub search_changed-requires-clause-in_bounds : goal.search_changed-requires-clause-in_bounds
search_changed-requires-clause-in_bounds g c =
    let sound = g.met.E.PairSearch.sound _ _ _ c.requires.is_ready in
    let found = least-taken (g.E.PairSearch.terms c.args.engine.now) sound _ c.loop-best.invariant.3 _ _ _ c.loop-best.invariant.2 _ _ c.bound.ensures c.best-best.ensures in
    let made = least-there (g.E.PairSearch.terms c.args.engine.now) sound _ _ c.loop-best.invariant.1.laid _ found (is_some _ c.if-best-eq0.false) in
    (omega (arith, c.make_move.ensures.edited.number, made.gives), omega (arith, c.make_move.ensures.edited.number, made.takes))

pub loop-best-preserved : goal.loop-best-preserved
loop-best-preserved g c =
    let sound = g.met.E.PairSearch.sound _ _ _ c.requires.is_ready in
    let found = least-taken (g.E.PairSearch.terms c.args.engine.now) sound _ c.loop-best.invariant.3 _ _ _ c.loop-best.invariant.2 _ _ c.bound.ensures c.best-best.ensures in
    let terms = c.make_move.ensures.still.0 ∙ c.loop-best.invariant.3 in (
      goes_on (g.E.PairSearch.terms c.args.engine.now) sound _ _ _ _ c.loop-best.invariant.0 _ found (is_some _ c.if-best-eq0.false) c.if-limit-moves.false _
          c.make_move.ensures.edited.holds,
      edited_again _ _ _ _ _ _ _ c.loop-best.invariant.1 c.make_move.ensures.edited,
      rw terms at c.search_changed.ensures.right,
      c.search_changed.ensures.still.0 ∙ terms,
      c.search_changed.ensures.still.1,
    )
