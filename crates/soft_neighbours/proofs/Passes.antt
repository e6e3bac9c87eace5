-- A pass over the places goes through the whole enumeration, and its choice is the definition's: a scan (engine's proofs/Choosing.antt) in which every
-- neighbour passes. Assumes nothing.
use mathlib.Core.Path.{◌≡◌, refl}
use mathlib.Core.Bool.{Bool, true, false, cond}
use mathlib.Core.List.{List, [], ◌∷◌}
use Prim.Native.Nat.{ℕ, ◌<◌}
use native.Mathlib.Omega.{arith}
use lib.ListN.{length}
use lib.Ieee.{Float, lt}
use Rattle.std.specs.Prelude.{Option, Some, None}
use Rattle.numbers.specs.Operations.{◌⊖◌}
use Rattle.descent.specs.Search.{ok, taken}
use Rattle.descent.specs.Scan.{chosen, onward, figure}
use Rattle.engine.specs.Best as engine_best
use Rattle.engine.specs.Best.{better, found_as, Onto, Among}
use Rattle.engine.specs.declared.best.Best.{Best}
use Rattle.engine.proofs.Choosing.{known_nothing, among_above, among_taken, onto_starts, onto_turns, onto_ends}
use Rattle.neighbours.specs.Neighbours.{Neighbourhood, Neighbour, neighbours, made}
use Rattle.neighbours.specs.Places.{Place, meant, Inside, InsideAny, placed, rest, Follows}
use Rattle.soft_neighbours.specs.SoftSearch.{soft_search, soft_judge}
use Rattle.soft_neighbours.specs.Chosen as soft
use Rattle.soft_neighbours.specs.Chosen.{Known}

-- every neighbour passes
abbrev all : Neighbour → Bool
all m = true

module _ {P : Type 0} (place : P → Place) (n : ℕ) where
  -- where a scan stands is a place
  pub inside_at : (here : Option P) (at : P) → here ≡ Some at → InsideAny n (placed place here) → Inside n (place at)
  unfolding InsideAny
  inside_at here at e inside = rw e at inside

  -- the neighbours ahead get fewer
  pub fewer : (here : Option P) (at : P) (then : Option P) → here ≡ Some at → Follows n (place at) (placed place then)
      → length (rest n (placed place then)) < length (rest n (placed place here))
  unfolding rest
  fewer here at then is f = rw (is, f.same) (omega arith)

module _ {P : Type 0} (place : P → Place) (cost : Neighbour → Float) (bound : Float) (n : ℕ) where
  abbrev neighbour : P → Neighbour
  neighbour at = meant (place at)

  -- nothing found so far
  abbrev nothing : Best P
  nothing = record { bound = bound; found = None }

  -- what the rest of the scan comes to is what the whole does; the best so far is a place, and the scan stands at one
  pub record Scanning (here₀ : Option P) (best : Best P) (here : Option P) : Type 0 where
    pub onto : Onto neighbour cost all bound nothing (rest n (placed place here₀)) best (rest n (placed place here))
    pub found : InsideAny n (placed place best.found)
    pub inside : InsideAny n (placed place here)

  pub scan_starts : (best : Best P) (here : Option P) → best ≡ nothing → InsideAny n (placed place here) → Scanning here best here
  unfolding InsideAny
  scan_starts best here e inside = rw e (record { onto = onto_starts neighbour cost all bound nothing _ (known_nothing neighbour cost all bound); found = tt; inside = inside })

  -- one neighbour more
  one_more : (best : Best P) (at : P) (price : Float) → engine_best.Known neighbour cost all bound best → price ≡ cost (neighbour at)
      → Among neighbour cost all bound best (neighbour at ∷ []) (better best price at)
  unfolding better
  one_more best at price known e = go (lt price best.bound) refl
    where
      go : (b : Bool) → lt price best.bound ≡ b → Among neighbour cost all bound best (neighbour at ∷ []) (cond b (record { bound = price; found = Some at }) best)
      go true f = among_taken neighbour cost all bound best at price known e f refl
      go false f = among_above neighbour cost all bound best at price known e f

  still_found : (best : Best P) (at : P) (price : Float) → InsideAny n (placed place best.found) → Inside n (place at)
      → InsideAny n (placed place (better best price at).found)
  unfolding better InsideAny
  still_found best at price found inside = go (lt price best.bound)
    where
      go : (b : Bool) → InsideAny n (placed place (cond b (record { bound = price; found = Some at }) best).found)
      go true = inside
      go false = found

  module _ (here₀ : Option P) (best : Best P) (here : Option P) (s : Scanning here₀ best here) where
    pub scan_turns : (at : P) (price : Float) (new : Best P) (then : Option P) → here ≡ Some at → price ≡ cost (neighbour at) → new ≡ better best price at
        → Follows n (place at) (placed place then) → Scanning here₀ new then
    unfolding rest
    scan_turns at price new then is e b f =
        rw b (record {
          onto = onto_turns neighbour cost all bound nothing (rest n (placed place here₀)) best (better best price at) (neighbour at ∷ []) (rest n (placed place then))
              (rw (is, f.same) at s.onto) (one_more best at price s.onto.known e);
          found = still_found best at price s.found (inside_at place n here at is s.inside);
          inside = f.inside;
        })

    pub scan_over : here ≡ None → Among neighbour cost all bound nothing (rest n (placed place here₀)) best
    unfolding rest
    scan_over is = onto_ends neighbour cost all bound nothing (rest n (placed place here₀)) best (rw is at s.onto)

-- what a pass comes to is what the definition takes
module _ {P : Type 0} (place : P → Place) (which : Neighbourhood) (price : List ℕ → Float) (floor : Float) (xs : List ℕ) where
  abbrev cost_of : Neighbour → Float
  cost_of m = price (made xs m)

  known_of : (best : Best P) → engine_best.Known (λ at. meant (place at)) cost_of all (price xs ⊖ floor) best → InsideAny (length xs) (placed place best.found)
      → Known place cost_of (length xs) best
  unfolding Known InsideAny found_as figure
  known_of best known inside = go best.found known.figured inside
    where
      go : (found : Option P) → best.bound ≡ figure cost_of all (price xs ⊖ floor) (found_as (λ at. meant (place at)) found) → InsideAny (length xs) (placed place found)
          → Known place cost_of (length xs) (record { bound = best.bound; found = found })
      go None e inside = tt
      go (Some at) e inside = (inside, e)

  pub scan_ends : (cost : Float) (here₀ : Option P) (best : Best P) (here : Option P) → cost ≡ price xs
      → rest (length xs) (placed place here₀) ≡ neighbours which (length xs)
      → Scanning place cost_of (cost ⊖ floor) (length xs) here₀ best here → here ≡ None
      → (soft.chosen place best.found ≡ taken (soft_search which) (soft_judge price floor) xs tt) × Known place cost_of (length xs) best
  unfolding taken ok onward chosen found_as
  scan_ends cost here₀ best here e whole s is =
      let among = scan_over place cost_of (cost ⊖ floor) (length xs) here₀ best here s is in
      let all_of = rw (e, whole) at among in
      (all_of.chosen, known_of best all_of.known s.found)

-- the one chosen is a place, and its cost is known
pub known_at : {P : Type 0} (place : P → Place) (cost : Neighbour → Float) (n : ℕ) (best : Best P) (at : P) → Known place cost n best → best.found ≡ Some at
    → Inside n (place at) × (best.bound ≡ cost (meant (place at)))
unfolding Known
known_at place cost n best at known e = rw e at known
