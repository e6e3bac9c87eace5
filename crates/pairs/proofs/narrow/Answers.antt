-- `narrow`: a u16 stays, anything else is 0.
use mathlib.Core.Path.{◌≡◌, ◌∙◌}
use Prim.Native.Nat.{ℕ, ◌<◌, ◌≤◌}
use native.Mathlib.Omega.{arith}
use borrow.Author.Tests.{lt-ltb, le-ltb}
use Rattle.std.specs.Prelude.{Result, Ok, Err}
use Rattle.std.specs.Result.{OkIff, result_unwrap_or}
use Rattle.pairs.specs.Pairs.{narrowed}
use Rattle.pairs.proofs.narrow.Goals as goal

taken : {E : Type 0} (r : Result ℕ E) (k : ℕ) → OkIff r (k < 65536) k → result_unwrap_or r 0 ≡ narrowed k
unfolding narrowed
taken (Ok x) k h = rw (lt-ltb _ _ h.0) h.1
taken (Err e) k h = let large : 65536 ≤ k = omega (arith, h) in rw (le-ltb _ _ large)

pub returns : goal.returns
returns c =
    c.unwrap_or.ensures ∙ taken _ _ c.try_from.ensures
