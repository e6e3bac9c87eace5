-- `best_of_pair`: lists of one depot leave the best as it is.
use Rattle.loads.proofs.Tables.{two_of}
use Rattle.cross_search.proofs.Pairs.{pair_driven, pair_same, pair_apart, pair_other}
use Rattle.cross_search.proofs.best_of_pair.Goals as goal

pub returns-then-is_same_depot : goal.returns-then-is_same_depot
returns-then-is_same_depot c =
    pair_same _ _ _ _ _ _ _ _ _ _ _ c.pair_at-pair.ensures _ c.is_same_depot.ensures c.if-is_same_depot.true

pub between_lists-requires : goal.between_lists-requires
between_lists-requires c =
    let apart = pair_apart _ _ _ _ _ _ c.pair_at-pair.ensures _ c.is_same_depot.ensures c.if-is_same_depot.false in
    record {
      asked = (
        c.args.terms.now.asked,
        rw c.pair_at-pair.ensures (pair_driven _ _ _ _ _ _ c.args.terms.now.manned),
        rw (c.list_of-one.ensures, c.list_of-other.ensures) (two_of _ _ _ c.requires.held _ _ apart),
      );
    }

pub returns : goal.returns
returns c =
    pair_other _ _ _ _ _ _ _ _ _ _ _ c.pair_at-pair.ensures _ c.is_same_depot.ensures _ _ _ c.if-is_same_depot.false
    c.list_of-one.ensures c.list_of-other.ensures c.between_lists.ensures
