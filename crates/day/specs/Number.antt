-- The numbers of document 01's table, of the refusals that the program answers. For every contract of a function that may refuse. Assumes nothing.
use Rattle.std.specs.Prelude.{ℕ, ◌≡◌, Result, Ok, Err}
use Rattle.std.specs.Result.{IsErrAnd}
use Rattle.std.proofs.Common.{ap, arith, ◌∙◌}
use Rattle.tests.specs.All.{first_of, first_some}
use Rattle.day.specs.declared.refusal.Refusal.{Refusal}
use Rattle.day.specs.declared.refusal.Refusal.TheVariants.{Size, Lengths, Tables, Locations, Windows, Depot, Van, Lists, Visit, Repeated, Fleet, Price}

-- the number of a refusal in the table
abbrev pub number : Refusal → ℕ
number Size = 1
number Lengths = 2
number Tables = 3
number Locations = 4
number Windows = 5
number Depot = 6
number Van = 7
number Lists = 8
number Visit = 9
number Repeated = 10
number Fleet = 11
number Price = 12

-- the number of what was refused, and 0 where nothing was
abbrev pub number_of : {A : Type 0} → Result A Refusal → ℕ
number_of (Ok x) = 0
number_of (Err r) = number r

-- ---- laws

-- a refusal has a number other than 0
pub number_some : (r : Refusal) → number r ≡ 0 → ⊥
number_some Size h = omega arith
number_some Lengths h = omega arith
number_some Tables h = omega arith
number_some Locations h = omega arith
number_some Windows h = omega arith
number_some Depot h = omega arith
number_some Van h = omega arith
number_some Lists h = omega arith
number_some Visit h = omega arith
number_some Repeated h = omega arith
number_some Fleet h = omega arith
number_some Price h = omega arith

-- a refusal that `?` hands on is the first of two
pub refused_first : {A : Type 0} (r : Result A Refusal) (e : Refusal) (n rest : ℕ) → IsErrAnd r (λ y. y ≡ e) → number e ≡ n → number_of r ≡ first_of n rest
refused_first (Ok x) e n rest handed is = absurd handed
refused_first (Err y) e n rest handed is =
    let same = ap number handed ∙ is in
    same ∙ first_some n rest (λ none. number_some y (same ∙ none))
