-- The distance of a list, in the order in which the Rust adds it up. Assumes nothing.
use Rattle.std.specs.Prelude.{ℕ, ◌+◌, ◌<◌, ◌≤◌, ◌≡◌, length, get_or, drop, Float}
use Rattle.std.proofs.Common.{add-one, arith, drop_of_length-le}
use Rattle.std.proofs.Math.Path.{refl, ap}
use mathlib.Core.List.{List, [], ◌∷◌}
use Rattle.std.proofs.Math.Seq.{drop-cons}
use Rattle.numbers.specs.Operations.{◌⊕◌, zero64}
use Rattle.day.specs.Matrix.{leg}

-- this distance so far, from the place where the van is through the rest of the list to the depot
unfoldable pub onward_distance : ℕ → List Float → ℕ → List ℕ → Float → ℕ → Float
onward_distance l distances depot [] distance place = distance ⊕ leg l distances place depot
onward_distance l distances depot (visit ∷ rest) distance place =
    onward_distance l distances depot rest (distance ⊕ leg l distances place visit) visit

-- 01: 'A list's distance goes from the van's depot to its first visit, from visit to visit, and from the last to the depot' (`route_distance`)
unfoldable pub route_distance : ℕ → List Float → ℕ → List ℕ → Float
route_distance l distances depot [] = zero64
route_distance l distances depot (visit ∷ rest) = onward_distance l distances depot rest (leg l distances depot visit) visit

-- ---- laws: what a loop over the list knows at each turn

module _ (l : ℕ) (distances : List Float) (depot : ℕ) where
  -- the list is empty
  pub distance_none : (list : List ℕ) → length list ≡ 0 → zero64 ≡ route_distance l distances depot list
  unfolding route_distance
  distance_none [] h = refl
  distance_none (visit ∷ rest) h = absurd (omega arith)

  -- the first leg
  pub distance_first : (list : List ℕ) (x : Float) → (length list ≡ 0 → ⊥) → x ≡ leg l distances depot (get_or list 0 0) →
      onward_distance l distances depot (drop 1 list) x (get_or list 0 0) ≡ route_distance l distances depot list
  unfolding route_distance
  distance_first [] x h e = absurd (h refl)
  distance_first (visit ∷ rest) x h e = ap (λ (y : Float). onward_distance l distances depot rest y visit) e

  module _ (list : List ℕ) (i : ℕ) (distance : Float) (place : ℕ) where
    -- one visit more
    pub distance_turn : (x : Float) → i < length list → x ≡ leg l distances place (get_or list i 0) →
        onward_distance l distances depot (drop (i + 1) list) (distance ⊕ x) (get_or list i 0) ≡ onward_distance l distances depot (drop i list) distance place
    unfolding onward_distance
    distance_turn x h e = rw (add-one, drop-cons list i 0 h, e)

    -- the return
    pub distance_end : (x : Float) → length list ≤ i → x ≡ leg l distances place depot →
        distance ⊕ x ≡ onward_distance l distances depot (drop i list) distance place
    unfolding onward_distance
    distance_end x h e = rw (drop_of_length-le list h, e)
