-- The numbers that each neighbourhood keeps of a place. For the contracts of src/. Assumes nothing.
use Rattle.neighbours.specs.Places.{Place, Turned, Moved, Reconnected}
use Rattle.neighbours.specs.declared.reverse.Reversal.{Reversal}
use Rattle.neighbours.specs.declared.relocate.Relocation.{Relocation}
use Rattle.neighbours.specs.declared.reconnect.Reconnection.{Reconnection}

-- the run that a reversal turns round
abbrev pub turned : Reversal → Place
turned at = Turned at.first at.last

-- the piece that a relocation moves, and its position
abbrev pub moved : Relocation → Place
moved at = Moved at.size at.from at.to

-- the three cuts of a reconnection, and its way
abbrev pub reconnected : Reconnection → Place
reconnected at = Reconnected at.i at.j at.k at.way
