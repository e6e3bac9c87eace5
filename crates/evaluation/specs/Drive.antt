-- How far a list is driven with no break to take. Assumes nothing.
use Rattle.std.specs.Prelude.{ℕ, Option, Some}
use Rattle.numbers.specs.Operations.{zero64}
use Rattle.labels.specs.Walk.{Tour, tour_of}
use Rattle.labels.specs.Label.{at_start}
use Rattle.labels.specs.declared.label.Label.{Label}
use Rattle.evaluation.specs.declared.drive.Drive.{Drive}

-- the van at the depot at time 0
abbrev pub begun : ℕ → Drive
begun depot = record { distance = zero64; label = at_start; place = depot }

-- the walk over a list goes on from here
abbrev pub so_far : Drive → Tour (Option Label)
so_far drive = tour_of drive.distance (Some drive.label) drive.place
