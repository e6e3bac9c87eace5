-- Lists of which the empty ones are dropped: what stays as it was, and where each of the others stood. Assumes nothing.
use mathlib.Core.Path.{◌≡◌, refl, ap, ◌∙◌}
use mathlib.Core.Logic.{◌≢◌}
use mathlib.Core.List.{List, [], ◌∷◌}
use Prim.Native.Nat.{ℕ, zero, suc, ◌<◌}
use native.Mathlib.Nat.{suc_inj}
use native.Mathlib.Omega.{arith}
use lib.ListN.{length, get_or, set}
use Rattle.edits.specs.Total.{total}
use Rattle.descent.specs.Permitted.{Changed}
use Rattle.descent.specs.Claim.{filled, dropped}
use Rattle.descent.proofs.Kept.{changed_total}

-- a sum to which an empty list gives nothing
pub filled-total : (f : List ℕ → ℕ) → f [] ≡ 0 → (ls : List (List ℕ)) → total f (filled ls) ≡ total f ls
filled-total f e [] = refl
filled-total f e ([] ∷ ls) = let ih = filled-total f e ls in omega arith
filled-total f e ((x ∷ xs) ∷ ls) = let ih = filled-total f e ls in omega arith

pub dropped-total : (f : List ℕ → ℕ) → f [] ≡ 0 → (ls : List (List ℕ)) → total f (dropped ls) ≡ total f ls
dropped-total f e [] = refl
dropped-total f e (xs ∷ []) = refl
dropped-total f e (xs ∷ ys ∷ ls) = filled-total f e (xs ∷ ys ∷ ls)

-- the number under which the k-th of the filled lists stood
abbrev pub place : List (List ℕ) → ℕ → ℕ
place [] k = k
place ([] ∷ ls) k = suc (place ls k)
place ((x ∷ xs) ∷ ls) zero = zero
place ((x ∷ xs) ∷ ls) (suc k) = suc (place ls k)

pub place_there : (ls : List (List ℕ)) (k : ℕ) → k < length (filled ls) → place ls k < length ls
place_there [] k h = h
place_there ([] ∷ ls) k h = let ih = place_there ls k h in omega arith
place_there ((x ∷ xs) ∷ ls) zero h = omega arith
place_there ((x ∷ xs) ∷ ls) (suc k) h = let ih = place_there ls k (omega arith) in omega arith

pub place_at : (ls : List (List ℕ)) (k : ℕ) → get_or ls (place ls k) [] ≡ get_or (filled ls) k []
place_at [] k = refl
place_at ([] ∷ ls) k = place_at ls k
place_at ((x ∷ xs) ∷ ls) zero = refl
place_at ((x ∷ xs) ∷ ls) (suc k) = place_at ls k

pub place-apart : (ls : List (List ℕ)) (i j : ℕ) → i ≢ j → place ls i ≢ place ls j
place-apart [] i j h e = h e
place-apart ([] ∷ ls) i j h e = place-apart ls i j h (suc_inj e)
place-apart ((x ∷ xs) ∷ ls) zero zero h e = h refl
place-apart ((x ∷ xs) ∷ ls) zero (suc j) h e = omega arith
place-apart ((x ∷ xs) ∷ ls) (suc i) zero h e = omega arith
place-apart ((x ∷ xs) ∷ ls) (suc i) (suc j) h e = place-apart ls i j (λ p. h (ap suc p)) (suc_inj e)

-- a change of two of the filled lists is a change of two of the lists, with the same outcome in every such sum
pub filled_changed : (X Y X' Y' : List ℕ) (ls ms : List (List ℕ)) → Changed X Y X' Y' (filled ls) ms
    → (ns : List (List ℕ)) × Changed X Y X' Y' ls ns × ((f : List ℕ → ℕ) → f [] ≡ 0 → total f ns ≡ total f ms)
filled_changed X Y X' Y' ls ms m =
    (set (set ls (place ls m.i) X') (place ls m.j) Y', there, same)
  where
    there : Changed X Y X' Y' ls (set (set ls (place ls m.i) X') (place ls m.j) Y')
    there = record {
      i = place ls m.i;
      j = place ls m.j;
      apart = place-apart ls m.i m.j m.apart;
      i_there = place_there ls m.i m.i_there;
      j_there = place_there ls m.j m.j_there;
      at_i = place_at ls m.i ∙ m.at_i;
      at_j = place_at ls m.j ∙ m.at_j;
      becomes = refl;
    }

    same : (f : List ℕ → ℕ) → f [] ≡ 0 → total f (set (set ls (place ls m.i) X') (place ls m.j) Y') ≡ total f ms
    same f e =
        let all = changed_total f X Y X' Y' ls (set (set ls (place ls m.i) X') (place ls m.j) Y') there in
        let few = changed_total f X Y X' Y' (filled ls) ms m in
        let sum = filled-total f e ls in
        omega arith

same_lists : (X Y X' Y' : List ℕ) (ls ms : List (List ℕ)) → Changed X Y X' Y' ls ms
    → (ns : List (List ℕ)) × Changed X Y X' Y' ls ns × ((f : List ℕ → ℕ) → f [] ≡ 0 → total f ns ≡ total f ms)
same_lists X Y X' Y' ls ms m = (ms, m, λ f e. refl)

pub dropped_changed : (X Y X' Y' : List ℕ) (ls ms : List (List ℕ)) → Changed X Y X' Y' (dropped ls) ms
    → (ns : List (List ℕ)) × Changed X Y X' Y' ls ns × ((f : List ℕ → ℕ) → f [] ≡ 0 → total f ns ≡ total f ms)
dropped_changed X Y X' Y' [] ms m = same_lists X Y X' Y' [] ms m
dropped_changed X Y X' Y' (xs ∷ []) ms m = same_lists X Y X' Y' (xs ∷ []) ms m
dropped_changed X Y X' Y' (xs ∷ ys ∷ ls) ms m = filled_changed X Y X' Y' (xs ∷ ys ∷ ls) ms m
