-- distance/matrix.rs: the distance and the travel time from a location to a location, the scale and the symmetry of the table. Assumes nothing.
use Rattle.std.specs.Prelude.{ℕ, ◌+◌, ◌*◌, ◌<◌, ◌≤◌, ◌≡◌, refl, List, Bool, true, false, not, cond, eqb, length, get_or, drop, Float}
use Rattle.std.proofs.Common.{suc-mul, mul-le-mul_right, arith, sym, ◌∙◌, drop_of_length-le, add-one}
use Rattle.std.proofs.lemmas.Bool.{not-true}
use Rattle.std.proofs.Math.Seq.{drop-cons}
use Rattle.std.specs.Float.Ieee.{nan, eq, lt}
use Rattle.numbers.specs.Operations.{zero64}
use Rattle.numbers.specs.Total.{larger, largest}
use Rattle.tests.specs.All.{all_below, all_four, of_four}

-- 01: 'Distances: L times L numbers, row = from' (`get`)
unfoldable pub leg : ℕ → List Float → ℕ → ℕ → Float
leg l distances from to = get_or distances (from * l + to) nan

-- 01: 'Times: the same, or length 0, and then distances serve' (`travel_time`)
unfoldable pub travel : ℕ → List Float → List Float → ℕ → ℕ → Float
travel l distances times from to = cond (eqb (length times) 0) (leg l distances from to) (leg l times from to)

-- 01: '`scale` (largest entry, from 0.0)'
unfoldable pub scale_of : List Float → Float
scale_of distances = largest zero64 distances

-- the entries of a row left of the diagonal equal their mirrors
unfoldable pub mirrored : ℕ → List Float → ℕ → Bool
mirrored l distances from = all_below (λ to. eq (leg l distances from to) (leg l distances to from)) from

-- 01: 'symmetry (each entry equals its mirror)'
unfoldable pub symmetric : ℕ → List Float → Bool
symmetric l distances = all_below (mirrored l distances) l

-- ---- what a caller shows

-- a table of L times L numbers, L at most 64
pub record Square (l : ℕ) (table : List Float) : Type 0 where
  pub few : l ≤ 64
  pub size : length table ≡ l * l

-- the distances, and times that are a table too or have length 0
pub record Tables (l : ℕ) (distances times : List Float) : Type 0 where
  pub of_distances : Square l distances
  pub of_times : (length times ≡ 0 → ⊥) → Square l times

-- ---- laws

-- an entry of the table is inside it
pub entry_below : (l from to : ℕ) → from < l → to < l → from * l + to < l * l
entry_below l from to p q = omega (arith, suc-mul from l, mul-le-mul_right l p)

module _ (table : List Float) (i : ℕ) (most : Float) where
  -- one entry more
  pub largest_turn : i < length table → largest most (drop i table) ≡ largest (larger most (get_or table i nan)) (drop (i + 1) table)
  unfolding largest
  largest_turn h = rw (add-one, drop-cons table i nan h)

  -- an entry that isn't larger changes nothing
  pub largest_passed : i < length table → lt most (get_or table i nan) ≡ false → largest most (drop (i + 1) table) ≡ largest most (drop i table)
  largest_passed h smaller = sym (largest_turn h ∙ rw smaller)

  -- none is left
  pub largest_end : length table ≤ i → largest most (drop i table) ≡ most
  unfolding largest
  largest_end h = rw (drop_of_length-le table h)

-- four entries that aren't larger change nothing
pub largest_passed_four : (table : List Float) (i : ℕ) (most : Float) → i + 4 ≤ length table → all_four (λ k. not (lt most (get_or table k nan))) i ≡ true
    → largest most (drop (i + 4) table) ≡ largest most (drop i table)
largest_passed_four table i most h smaller =
    let each = of_four (λ k. not (lt most (get_or table k nan))) i smaller in
    past (i + 3) (i + 4) (omega arith) (omega (arith, h)) each.3 ∙ past (i + 2) (i + 3) (omega arith) (omega (arith, h)) each.2
    ∙ past (i + 1) (i + 2) (omega arith) (omega (arith, h)) each.1 ∙ past i (i + 1) refl (omega (arith, h)) each.0
  where
    past : (k n : ℕ) → n ≡ k + 1 → k < length table → not (lt most (get_or table k nan)) ≡ true → largest most (drop n table) ≡ largest most (drop k table)
    past k n e below s = rw e (largest_passed table k most below (not-true (lt most (get_or table k nan)) s))
