-- `load_of`: so far the load is that of the visits passed.
use Rattle.std.proofs.Common.{◌≡◌, take}
use Rattle.edits.specs.Total.{total}
use Rattle.loads.specs.Loads.{boxes_of}
use Rattle.loads.proofs.load_of.Given as goal

abbrev pub invariant-loop-visit : goal.invariant-loop-visit
invariant-loop-visit l =
    l.load ≡ total (boxes_of l.demand) (take l.visit-index l.list)
