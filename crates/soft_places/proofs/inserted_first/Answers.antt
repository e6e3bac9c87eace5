-- `inserted_first`: the visit, and the list behind it.
use mathlib.Core.Path.{ap, ◌∙◌}
use mathlib.Core.List.{List, ◌++◌}
use Prim.Native.Nat.{ℕ}
use native.Mathlib.Omega.{arith}
use Rattle.soft_places.proofs.inserted_first.Goals as goal

pub returns-clause-value : goal.returns-clause-value
returns-clause-value c =
    omega (arith, c.append_one-head.ensures.ends, c.append.ensures.ends)

pub returns-clause-buffer_after : goal.returns-clause-buffer_after
returns-clause-buffer_after c =
    c.append.ensures.filled
    ∙ ap (λ (head : List ℕ). head ++ c.args.list.now) c.append_one-head.ensures.filled
