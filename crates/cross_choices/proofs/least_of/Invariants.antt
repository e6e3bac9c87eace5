-- `least_of`: before each move, the scan from here on comes to the first least of all.
use mathlib.Core.Path.{◌≡◌}
use Prim.Native.Nat.{◌≤◌}
use Rattle.descent.specs.Order.{range, scan}
use Rattle.cross_choices.specs.Rows.{lesser_of, delta_at, least_of}
use Rattle.cross_choices.proofs.least_of.Given as goal

abbrev pub invariant-loop-j : goal.invariant-loop-j
invariant-loop-j l =
    (l.j ≤ l.count)
    × (scan (λ i. lesser_of i (delta_at l.before l.costs1 l.costs2 i)) (range l.j l.count) l.least ≡ least_of l.before l.count l.costs1 l.costs2 l.most)
