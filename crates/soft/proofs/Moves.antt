-- What a pass chooses is the definition's next move. Assumes nothing.
use mathlib.Core.Path.{◌≡◌, refl, sym, ap, ◌∙◌}
use mathlib.Core.Option.{none, some}
use mathlib.Core.List.{List, [], ◌∷◌}
use Prim.Native.Nat.{ℕ, ◌≤◌}
use native.Mathlib.Omega.{arith}
use lib.ListN.{length}
use lib.Ieee.{Float}
use Rattle.std.specs.Prelude.{Option, Some, None}
use Rattle.labels.specs.Columns.{Columns}
use Rattle.evaluation.specs.Route.{effective_cost}
use Rattle.descent.specs.Search.{taken, first_move, next, Sweep}
use Rattle.descent.proofs.Loops.{place_passed, place_moved, next_sweep}
use Rattle.engine.specs.Engine.{Leads}
use Rattle.engine.specs.Best.{found_as}
use Rattle.engine.specs.declared.best.Best.{Best}
use Rattle.neighbours.specs.Neighbours.{Neighbourhood, made}
use Rattle.neighbours.specs.Places.{Place, meant}
use Rattle.neighbours.proofs.Layouts.{made_kept}
use Rattle.soft_neighbours.specs.SoftSearch.{soft_search, soft_judge}
use Rattle.soft_neighbours.specs.Chosen.{chosen, Known}
use Rattle.soft_neighbours.proofs.Passes.{known_at}
use Rattle.soft.specs.Soft.{soft_next}
use Rattle.soft.specs.Pass.{at, Ready, Apt, after}
use Rattle.soft.specs.declared.Terms.{Terms}
use Rattle.soft.specs.declared.Found.{Found}

-- the next move of the one place
module _ (which : Neighbourhood) (price : List ℕ → Float) (floor : Float) (xs : List ℕ) where
  from_the_start : next (soft_search which) (soft_judge price floor) (at xs) ≡ first_move (soft_search which) (soft_judge price floor) xs (tt ∷ [])
  unfolding first_move
  from_the_start = next_sweep (soft_search which) (soft_judge price floor) (at xs) refl

  no_step : taken (soft_search which) (soft_judge price floor) xs tt ≡ none → next (soft_search which) (soft_judge price floor) (at xs) ≡ none
  unfolding first_move
  no_step e = from_the_start ∙ place_passed (soft_search which) (soft_judge price floor) xs tt [] e

  one_step : (m : _) → taken (soft_search which) (soft_judge price floor) xs tt ≡ some m
      → next (soft_search which) (soft_judge price floor) (at xs) ≡ some (at (made xs m))
  one_step m e = from_the_start ∙ place_moved (soft_search which) (soft_judge price floor) xs tt [] m e

module _ {P : Type 0} (place : P → Place) (which : Neighbourhood) (c : Columns) (t : Terms) (xs buffer after_buffer : List ℕ) (cost : Float)
    (ready : Ready c t xs buffer cost) (room : length after_buffer ≡ length buffer) (best : Best P)
    (takes : chosen place best.found ≡ taken (soft_search which) (soft_judge (effective_cost c t.limits t.depot) t.floor) xs tt)
    (known : Known place (λ m. effective_cost c t.limits t.depot (made xs m)) (length xs) best) where
  abbrev Led : Option (Found P) → Type 0
  Led = Leads (soft_next which c t.limits t.depot t.floor (at xs)) (at xs) (at xs) (Apt place c t xs after_buffer) (λ m. at xs) (after place xs)

  -- a pass that finds nothing
  pub led_nowhere : best.found ≡ None → Led None
  unfolding Leads found_as
  led_nowhere e = (no_step which (effective_cost c t.limits t.depot) t.floor xs (sym takes ∙ ap (chosen place) e), refl)

  -- and one that finds a neighbour
  pub led_on : (at : P) → best.found ≡ Some at → Led (Some (record { at = at; cost = best.bound }))
  unfolding Leads found_as
  led_on at e =
      let inside = known_at place (λ m. effective_cost c t.limits t.depot (made xs m)) (length xs) best at known e in
      let here = ready.room in (
        record {
          depot_there = ready.depot_there;
          visits = ready.visits;
          room = omega (arith, here, room);
          inside = inside.0;
          priced = inside.1;
        },
        refl,
        one_step which (effective_cost c t.limits t.depot) t.floor xs (meant (place at)) (sym takes ∙ ap (chosen place) e),
      )

-- a neighbour that was made: a list of the same visits, which costs what the neighbour did
pub ready_on : {P : Type 0} (place : P → Place) (c : Columns) (t : Terms) (xs buffer ys after_buffer : List ℕ) (m : Found P) → Apt place c t xs buffer m
    → ys ≡ made xs (meant (place m.at)) → length ys ≡ length xs → length after_buffer ≡ length buffer → Ready c t ys after_buffer m.cost
ready_on place c t xs buffer ys after_buffer m apt e long room =
    let first = apt.room in
    record {
      depot_there = apt.depot_there;
      visits = rw e (made_kept _ _ _ apt.inside apt.visits);
      room = omega (arith, first, long, room);
      priced = rw e apt.priced;
    }
