-- `ByCost::of`: a van at the depot has driven no visit of either list.
use Rattle.heads.proofs.Heads.{depot_driven}
use Rattle.soft_tail_candidates.proofs.ByCost.of.Goals as goal

pub invariant_of-result : goal.invariant_of-result
invariant_of-result c =
    let there = c.args.two.now.depot_there in record {
      figured = c.requires.figured;
      priced = c.requires.priced;
      first = rw c.at_depot-start.ensures (depot_driven _ _ _ _ there);
      second = rw c.at_depot-start.ensures (depot_driven _ _ _ _ there);
    }
