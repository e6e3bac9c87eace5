-- `drive_candidate`: before each visit what is driven so far is the walk up to it; where no label is left, the rest leaves none.
use lib.Seq.{slice}
use Rattle.cross_moves.specs.CrossDepot.{replaced}
use Rattle.cross_broken_drives.proofs.Drives.{Driving}
use Rattle.labels.specs.Lent.{lent}
use Rattle.cross_broken_drives.proofs.drive_candidate.Given as goal

abbrev pub invariant-loop-i : goal.invariant-loop-i
invariant-loop-i l =
    let c = lent l.columns in
    Driving c l.initial.head (replaced l.list l.from l.to (slice l.other_from l.other_to l.other)) l.driven l.from l.kept l.head l.i
