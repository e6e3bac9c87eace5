-- `best_of_kind`: before each block, the scan from here on comes to all rows of the kind.
use mathlib.Core.Path.{refl, sym, ◌∙◌}
use native.Mathlib.Omega.{arith}
use lib.ListN.{length}
use Rattle.cross_kinds.specs.Kinds.{rows_in}
use Rattle.cross_choices.specs.Rows.{best_of_kind}
use Rattle.cross_kinds.proofs.Along.{rows_few}
use Rattle.cross_blocks.proofs.Blocks.{scan_on, width_few}
use Rattle.descent.proofs.Loops.{scan_done}
use Rattle.cross_pairs.proofs.best_of_kind.Goals as goal

pub loop-k-init : goal.loop-k-init
unfolding best_of_kind
loop-k-init c =
    refl

pub rows_at_once-some-requires : goal.rows_at_once-some-requires
rows_at_once-some-requires c =
    let rows = rows_few c.args.kind (length c.args.one.now.list.now) in (
      omega (arith, c.width-width.ensures, width_few c.args.kind (length c.args.other.now.list.now), c.requires.ready.two.few),
      omega (arith, c.loop-k-test.true),
      omega (arith, c.rows-all.ensures, rows, c.requires.ready.two.few),
    )

pub best_of_block-found-requires-clause-block : goal.best_of_block-found-requires-clause-block
best_of_block-found-requires-clause-block c =
    record {
      within = omega (arith, c.rows-all.ensures, c.rows_at_once-some.ensures.1, c.loop-k-test.true);
      some = c.rows_at_once-some.ensures.0;
      room = c.rows_at_once-some.ensures.2;
      is_width = c.width-width.ensures;
    }

pub overflow_add-k : goal.overflow_add-k
overflow_add-k c =
    let rows = rows_few c.args.kind (length c.args.one.now.list.now) in
    omega (arith, c.loop-k-test.true, c.rows_at_once-some.ensures.1, c.rows-all.ensures, rows, c.requires.ready.two.few)

pub loop-k-smaller : goal.loop-k-smaller
loop-k-smaller c =
    omega (arith, c.loop-k-test.true, c.rows_at_once-some.ensures.0, c.rows_at_once-some.ensures.1)

pub loop-k-preserved : goal.loop-k-preserved
loop-k-preserved c =
    let all = rows_in c.args.kind (length c.args.one.now.list.now) in
    scan_on _ _ _ all _ _ c.best_of_block-found.ensures (omega (arith, c.rows-all.ensures, c.rows_at_once-some.ensures.1, c.loop-k-test.true))
    ∙ c.loop-k.invariant

pub returns : goal.returns
returns c =
    let all = rows_in c.args.kind (length c.args.one.now.list.now) in
    sym (scan_done _ _ all _ (omega (arith, c.rows-all.ensures, c.loop-k-test.false))) ∙ c.loop-k.invariant
