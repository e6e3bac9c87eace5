-- `Choice::cut`: no head of no visits is chosen.
use mathlib.Core.Path.{◌≡◌, refl}
use Prim.Native.Nat.{ℕ, zero, suc}
use Rattle.std.specs.Prelude.{Some}
use Rattle.tail_candidates.specs.Choice.{cut_of}
use Rattle.tail_candidates.proofs.Choice.cut.Goals as goal

pub returns-then-self-eq0 : goal.returns-then-self-eq0
unfolding cut_of
returns-then-self-eq0 c = rw c.if-self-eq0.true refl

pub returns : goal.returns
unfolding cut_of
returns c = by_number c.args.self.cut1 c.if-self-eq0.false
  where
    by_number : (one : ℕ) → (one ≡ 0 → ⊥) → Some (record { one = one; other = c.args.self.cut2 }) ≡ cut_of one c.args.self.cut2
    by_number zero h = absurd (h refl)
    by_number (suc one) h = refl
