-- The scan over the seven ways takes the first least of the candidates that count and pass, by the laws of scans (engine's proofs/Choosing.antt). Assumes nothing.
use mathlib.Core.Path.{◌≡◌, refl, ap, ◌∙◌}
use mathlib.Core.List.{List, map}
use Prim.Native.Nat.{ℕ}
use lib.Ieee.{neg}
use Rattle.std.specs.Prelude.{Some, None}
use Rattle.labels.specs.Columns.{Columns}
use Rattle.descent.specs.Order.{range}
use Rattle.descent.specs.Search.{ok, taken}
use Rattle.descent.specs.Scan.{chosen, onward}
use Rattle.descent.specs.Within.{Reconnection}
use Rattle.engine.specs.Best.{found_as}
use Rattle.engine.specs.declared.best.Best.{Best}
use Rattle.engine.proofs.Choosing.{known_nothing}
use Rattle.layouts.specs.declared.Way.{Way}
use Rattle.reconnections.specs.Reconnections.{cut_of, reconnection}
use Rattle.reconnections.specs.declared.Place.{Place}
use Rattle.patterns.specs.Patterns.{search_of, judge_of, Prepared, nth_candidate, bound_of, Known, Among}
use Rattle.patterns.specs.declared.Setup.{Setup}

module _ (c : Columns) (s : Setup) (xs : List ℕ) (place : Place) where
  -- all candidates, by the numbers of their ways
  abbrev pub candidates_from : ℕ → List Reconnection
  candidates_from number = map (nth_candidate place) (range number 7)

  -- nothing found so far
  abbrev pub nothing : Best Way
  nothing = record { bound = neg s.floor; found = None }

  pub known_start : Prepared s c → Known c s xs place nothing
  known_start ready = rw ready.floor (known_nothing (reconnection place) ((judge_of c s.depot).delta xs) ((search_of c s.limits s.depot).passes xs) (bound_of c))

  -- the best of all, from nothing on, is what is taken
  pub all_chosen : (start best : Best Way) → start ≡ nothing → Among c s xs place start (candidates_from 0) best
      → found_as (reconnection place) best.found ≡ taken (search_of c s.limits s.depot) (judge_of c s.depot) xs (cut_of place)
  unfolding search_of judge_of taken ok onward chosen found_as
  all_chosen start best e among =
      among.chosen
      ∙ ap (λ (b : Best Way). onward ((judge_of c s.depot).delta xs) ((search_of c s.limits s.depot).passes xs) (bound_of c)
      (found_as (reconnection place) b.found) (candidates_from 0)) e
