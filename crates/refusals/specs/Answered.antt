-- What a call answers that may be refused: every entry's definition is of this form. Assumes nothing.
use Prim.Native.Nat.{ℕ, zero, suc, ◌-◌}
use Rattle.std.specs.Prelude.{◌≡◌, refl, List, [], ◌∷◌, get_or, Result, Ok, Err}
use Rattle.std.specs.Result.{IsErrAnd}
use Rattle.std.proofs.Common.{sym, ◌∙◌}
use Rattle.std.proofs.Math.Path.{ap}
use Rattle.day.specs.Number.{number, number_of, number_some}
use Rattle.day.specs.declared.refusal.Refusal.{Refusal}
use Rattle.day.specs.declared.refusal.Refusal.TheVariants.{Size, Lengths, Tables, Locations, Windows, Depot, Van, Lists, Visit, Repeated, Fleet, Price}

-- what is answered where nothing is refused, and otherwise what stands for a refusal by its number
unfoldable pub unless_refused : {A : Type 0} → ℕ → (ℕ → A) → A → A
unless_refused zero refused answer = answer
unless_refused (suc n) refused answer = refused (suc n)

-- 01's table of what is refused, in its order
abbrev pub refusals : List Refusal
refusals = Size ∷ Lengths ∷ Tables ∷ Locations ∷ Windows ∷ Depot ∷ Van ∷ Lists ∷ Visit ∷ Repeated ∷ Fleet ∷ Price ∷ []

-- the refusal of a number of the table
unfoldable pub numbered : ℕ → Refusal
numbered n = get_or refusals (n - 1) Price

-- what a call answers that is refused by a number
abbrev pub refused_as : {A : Type 0} → ℕ → Result A Refusal
refused_as n = Err (numbered n)

-- ---- laws: what a return shows

-- each refusal is that of its number
pub numbered_is : (r : Refusal) → numbered (number r) ≡ r
unfolding numbered
numbered_is Size = refl
numbered_is Lengths = refl
numbered_is Tables = refl
numbered_is Locations = refl
numbered_is Windows = refl
numbered_is Depot = refl
numbered_is Van = refl
numbered_is Lists = refl
numbered_is Visit = refl
numbered_is Repeated = refl
numbered_is Fleet = refl
numbered_is Price = refl

-- the number that a function which refuses answers by is that of the refusal it stands for
pub number_known : {A : Type 0} (r : Result A Refusal) (n : ℕ) → number_of r ≡ n → (n ≡ 0 → ⊥) → number (numbered n) ≡ n
number_known (Ok x) n e some = absurd (some (sym e))
number_known (Err r) n e some = rw (← e) (ap number (numbered_is r))

module _ {A : Type 0} (refused : ℕ → A) (answer : A) where
  -- a refusal that was found
  pub refused_by : (n k : ℕ) → (n ≡ 0 → ⊥) → n ≡ k → refused n ≡ unless_refused k refused answer
  unfolding unless_refused
  refused_by zero k some e = absurd (some refl)
  refused_by (suc n) k some e = ap (λ (m : ℕ). unless_refused m refused answer) e

  -- none was
  pub answered : (n k : ℕ) (r : A) → n ≡ 0 → n ≡ k → r ≡ answer → r ≡ unless_refused k refused answer
  unfolding unless_refused
  answered n k r none e h = h ∙ ap (λ (m : ℕ). unless_refused m refused answer) (sym none ∙ e)

-- a refusal that `?` hands on
pub handed_on : {A : Type 0} (answer x : Result A Refusal) (r : Refusal) (k : ℕ) → IsErrAnd x (λ y. y ≡ r) → number r ≡ k
    → x ≡ unless_refused k refused_as answer
handed_on answer (Ok y) r k handed e = absurd handed
handed_on answer (Err y) r k handed e =
    ap Err (handed ∙ sym (numbered_is r)) ∙ refused_by refused_as answer (number r) k (number_some r) e
