-- `lists::place_of` meets its contract: the place is behind the lists passed, each of which is shorter than 65,536. Assumes nothing.
use Rattle.std.proofs.Common.{◌≡◌, ◌≤◌, ◌+◌, ◌*◌}
use Rattle.lists.specs.Table.{start_of}
use Rattle.lists.proofs.place_of.Given as goal

abbrev pub invariant-loop-length : goal.invariant-loop-length
invariant-loop-length l =
    record { bound : l.place ≤ 65535 * l.length-index + 65535; behind : l.place ≡ start_of l.lengths l.length-index + l.position }
