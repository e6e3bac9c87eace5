-- The cache: something noted, or what is known of one list changed, and the rest stays; so what is known of the other lists stays right, and what is known
-- of a list that lost or got a visit is right again after it was brought up to date. Assumes nothing.
use mathlib.Core.Path.{◌≡◌, refl, ◌∙◌}
use mathlib.Core.Logic.{◌≢◌}
use mathlib.Core.List.{List, [], ◌∷◌}
use Prim.Native.Nat.{ℕ, zero, suc, ◌+◌, ◌≤◌, ◌<◌}
use native.Mathlib.Omega.{arith}
use native.Mathlib.Decide.{ℕ_discrete}
use lib.Dec.{T}
use lib.ListN.{length, get_or, set, replicate}
use lib.Seq.{get_or-set_same, get_or-set_other}
use lib.Ieee.{Float, nan}
use lib.Ieee.Scale.{finite}
use Rattle.deltas.specs.Deltas.{insertion_delta}
use Rattle.edits.specs.Edits.{inserted, without}
use Rattle.insertions.specs.Cache.{LeastAt, forgotten, least_left, least_came, cell, known_at, Noted, Updated, Known}
use Rattle.insertions.specs.declared.Least.{Least}
use Rattle.insertions.specs.declared.Insertions.{Insertions}
use Rattle.insertions.proofs.Reached.{left_right, came_right}
use Rattle.insertions.proofs.Shifted.{without-length, with_length, joined, split}

-- what stands in a table of one number
pub nan_anywhere : (x : Float) → x ≡ nan → (n k : ℕ) → get_or (replicate n x) k nan ≡ nan
nan_anywhere x e zero k = refl
nan_anywhere x e (suc n) zero = e
nan_anywhere x e (suc n) (suc k) = nan_anywhere x e n k

-- a table that is cleared: one figure more, and all of them
pub nan_more : (xs : List Float) (i : ℕ) (x : Float) → x ≡ nan → i < length xs → ((k : ℕ) → k < i → get_or xs k nan ≡ nan)
    → (k : ℕ) → k < i + 1 → get_or (set xs i x) k nan ≡ nan
nan_more xs i x e h before k below = go (ℕ_discrete k i)
  where
    go : Dec (k ≡ i) → get_or (set xs i x) k nan ≡ nan
    go (yes same) = rw same (get_or-set_same xs i x nan h ∙ e)
    go (no other) = get_or-set_other xs i k x nan other ∙ before k (omega (arith, below, other))

pub nan_all : (xs : List Float) → ((k : ℕ) → k < length xs → get_or xs k nan ≡ nan) → (k : ℕ) → get_or xs k nan ≡ nan
nan_all [] h k = refl
nan_all (x ∷ xs) h zero = h 0 (omega arith)
nan_all (x ∷ xs) h (suc k) = nan_all xs (λ j below. h (suc j) (omega arith)) k

-- two cells are one where visit and list are
pub apart : (v s u r : ℕ) → s < 16 → r < 16 → (v ≡ u → s ≡ r → ⊥) → cell v s ≢ cell u r
apart v s u r hs hr differ e = differ (omega arith) (omega arith)

module _ (cost : List ℕ → ℕ → ℕ → Float) (n : ℕ) (ls : List (List ℕ)) where
  -- whatever is right of a visit and a list
  abbrev pub Right : List ℕ → ℕ → Least → Type 0
  Right Y v l = T (finite l.figure) → LeastAt (cost Y v) (suc (length Y)) l.figure l.place

  same : (Y : List ℕ) (v : ℕ) (a b : Least) → a ≡ b → Right Y v b → Right Y v a
  same Y v a b e h = rw e h

  -- as a run starts
  pub nothing_known_yet : n ≤ 64 → (cache : Insertions) → ((v s : ℕ) → (known_at cache v s).figure ≡ nan) → Known cost n ls cache
  nothing_known_yet few cache h = record { few = few; known = λ v r hv hr f. absurd (rw (h v r) at f) }

  module _ (old new : Insertions) (K : Known cost n ls old) (r : ℕ) (hr : r < 16) where
    -- something right is noted
    pub noted : (v : ℕ) (least : Least) → Right (get_or ls r []) v least → Noted v r least old new → Known cost n ls new
    noted v least h w = record { few = K.few; known = λ u s hu hs. go u s hu hs (ℕ_discrete u v) (ℕ_discrete s r) }
      where
        other : (u s : ℕ) → u < n → s < 16 → cell u s ≢ cell v r → Right (get_or ls s []) u (known_at new u s)
        other u s hu hs d = same (get_or ls s []) u _ _ (w.others u s hs d) (K.known u s hu hs)

        go : (u s : ℕ) → u < n → s < 16 → Dec (u ≡ v) → Dec (s ≡ r) → Right (get_or ls s []) u (known_at new u s)
        go u s hu hs (yes e) (yes f) = rw (e, f) (same (get_or ls r []) v _ _ w.here h)
        go u s hu hs (yes e) (no f) = other u s hu hs (apart u s v r hs hr (λ a b. f b))
        go u s hu hs (no e) d = other u s hu hs (apart u s v r hs hr (λ a b. e a))

    -- list r is Y now, and what is known of it is right of Y
    pub renewed : (there : r < length ls) (Y : List ℕ) (change : ℕ → Least → Least → Type 0) → Updated change r n old new
        → ((v : ℕ) → v < n → (l : Least) → change v (known_at old v r) l → Right Y v l) → Known cost n (set ls r Y) new
    renewed there Y change w h = record { few = K.few; known = λ v s hv hs. go v s hv hs (ℕ_discrete s r) }
      where
        go : (v s : ℕ) → v < n → s < 16 → Dec (s ≡ r) → Right (get_or (set ls r Y) s []) v (known_at new v s)
        go v s hv hs (yes e) =
            let y : get_or (set ls r Y) r [] ≡ Y = get_or-set_same ls r Y [] there in
            rw (e, y) (h v hv (known_at new v r) (w.here v hv))
        go v s hv hs (no e) =
            let y : get_or (set ls r Y) s [] ≡ get_or ls s [] = get_or-set_other ls r s Y [] e in
            rw y (same (get_or ls s []) v _ _ (w.others v s hs e) (K.known v s hv hs))

  -- what is forgotten is not wrong
  pub forgot : (old new : Insertions) → Known cost n ls old → (r : ℕ) → r < 16 → (v : ℕ) → Noted v r (forgotten (known_at old v r)) old new → Known cost n ls new
  forgot old new K r hr v w = noted old new K r hr v (forgotten (known_at old v r)) (λ f. absurd f) w

-- ---- a list loses a visit, or gets one

module _ (d : ℕ → ℕ → Float) (depot : ℕ) (fixed : Float) (n : ℕ) (ls : List (List ℕ)) (old new : Insertions)
    (K : Known (insertion_delta d depot fixed) n ls old) (r : ℕ) (hr : r < 16) (there : r < length ls) where
  abbrev price : List ℕ → ℕ → ℕ → Float
  price = insertion_delta d depot fixed

  abbrev X : List ℕ
  X = get_or ls r []

  pub known_left : (pos : ℕ) → pos < length X
      → Updated (λ v known after. after ≡ least_left known pos (price (without X pos) v pos)) r n old new → Known price n (set ls r (without X pos)) new
  known_left pos h w = renewed price n ls old new K r hr there (without X pos) _ w right
    where
      right : (v : ℕ) → v < n → (l : Least) → l ≡ least_left (known_at old v r) pos (price (without X pos) v pos)
          → T (finite l.figure) → LeastAt (price (without X pos) v) (suc (length (without X pos))) l.figure l.place
      right v hv l e =
          rw (e, without-length X pos h)
          (left_right (price X v) (price (without X pos) v) (length X) pos (joined d depot fixed X pos v h) (known_at old v r) (K.known v r hv hr))

  pub known_came : (u pos : ℕ) → pos ≤ length X
      → Updated (λ v known after. after ≡ least_came known pos (price (inserted X u pos) v pos) (price (inserted X u pos) v (pos + 1))) r n old new
      → Known price n (set ls r (inserted X u pos)) new
  known_came u pos h w = renewed price n ls old new K r hr there (inserted X u pos) _ w right
    where
      right : (v : ℕ) → v < n → (l : Least)
          → l ≡ least_came (known_at old v r) pos (price (inserted X u pos) v pos) (price (inserted X u pos) v (pos + 1))
          → T (finite l.figure) → LeastAt (price (inserted X u pos) v) (suc (length (inserted X u pos))) l.figure l.place
      right v hv l e =
          rw (e, with_length X u pos h)
          (came_right (price X v) (price (inserted X u pos) v) (suc (length X)) pos (split d depot fixed X u pos v h) (known_at old v r)
          (K.known v r hv hr))
