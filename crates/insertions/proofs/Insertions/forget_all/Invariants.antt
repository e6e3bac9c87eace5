-- `forget_all`: the figures before this one are no numbers.
use mathlib.Core.Path.{◌≡◌}
use Prim.Native.Nat.{ℕ, ◌<◌}
use lib.ListN.{length, get_or}
use lib.Ieee.{nan}
use Rattle.insertions.proofs.Insertions.forget_all.Given as goal

abbrev pub invariant-loop-i : goal.invariant-loop-i
invariant-loop-i l =
    (length l.self.figures ≡ 1024) × ((k : ℕ) → k < l.i → get_or l.self.figures k nan ≡ nan)
