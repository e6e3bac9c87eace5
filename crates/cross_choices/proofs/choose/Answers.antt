-- `choose`: a row of at most 64 moves is a block of one row, of width 64.
use Rattle.std.proofs.Common.{◌≡◌, ℕ, ◌+◌, ◌/◌, ◌%◌, ◌≤◌, Bool, true, false, List, arith, ◌∙◌, refl}
use borrow.Author.Tests.{eqb-false}
use lib.Dec.{eqb}
use lib.Ieee.{Float}
use Rattle.cross_kinds.specs.declared.kind.Kind.{Kind}
use Rattle.cross_moves.specs.declared.pair.Pair.{Pair}
use Rattle.cross_choices.specs.declared.Choice.{Choice}
use Rattle.cross_choices.specs.declared.Least.{Least}
use Rattle.cross_choices.specs.Rows.{chosen_by, chosen_by_block}
use Rattle.cross_choices.proofs.choose.Goals as goal

one_row : (kind : Kind) (pair : Pair) (n1 n2 k count : ℕ) (costs1 costs2 : List Float) (least : Least) (best : Choice) → least.at ≤ count → count ≤ 64
    → chosen_by_block kind pair n1 n2 k 64 count costs1 costs2 least best ≡ chosen_by kind pair n1 n2 k count costs1 costs2 least best
unfolding chosen_by chosen_by_block
one_row kind pair n1 n2 k count costs1 costs2 least best at_most few = by_test (eqb least.at count) refl
  where
    by_test : (t : Bool) → eqb least.at count ≡ t
        → chosen_by_block kind pair n1 n2 k 64 count costs1 costs2 least best ≡ chosen_by kind pair n1 n2 k count costs1 costs2 least best
    by_test true e = rw e
    by_test false e =
        let differs = eqb-false least.at count e in
        let row : k + least.at / 64 ≡ k = omega arith in
        let place : least.at % 64 ≡ least.at = omega arith in
        rw (e, row, place)

pub returns : goal.returns
returns c =
    c.choose_of_block.ensures ∙ one_row _ _ _ _ _ _ _ _ _ _ c.requires.1 c.requires.2
