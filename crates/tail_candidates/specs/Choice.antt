-- The best exchange of two lists so far, and what stays the same over a run. For src/ and the crates above. Assumes nothing.
use Rattle.std.specs.Prelude.{Bool, cond, ◌&&◌, ℕ, zero, suc, ℤ, nat_abs, Float, Option, Some, None}
use Rattle.std.specs.Float.Ieee.{lt, neg}
use Rattle.numbers.specs.Floor.{gain_floor}
use Rattle.day.specs.Matrix.{scale_of}
use Rattle.day.specs.declared.vehicle.RouteLimits.{RouteLimits}
use Rattle.labels.specs.Columns.{Columns}
use Rattle.evaluation.specs.Route.{checks_needed}
use Rattle.tail_candidates.specs.declared.Terms.{Terms}
use Rattle.tail_candidates.specs.declared.Choice.{Choice}
use Rattle.tail_candidates.specs.declared.Cut.{Cut}

-- what stays the same over a run, of a day and a van
abbrev pub terms_of : Columns → RouteLimits → ℤ → ℕ → Terms
terms_of c limits capacity depot = record {
  depot = depot;
  limits = limits;
  capacity = nat_abs capacity;
  needed = checks_needed c.flags limits;
  floor = gain_floor (scale_of c.distances);
}

-- the cut that two numbers of visits are; a head of no visits says that there is none
unfoldable pub cut_of : ℕ → ℕ → Option Cut
cut_of zero other = None
cut_of (suc one) other = Some (record { one = suc one; other = other })

-- nothing so far: no head has 0 visits, and a delta has to be below minus the floor
abbrev pub nothing : Float → Choice
nothing floor = record { cut1 = 0; cut2 = 0; delta = neg floor }

-- one candidate more, by what an exchange changes and whether it passes: 'below the best so far' is 'counts' too, since the best starts at minus the floor
unfoldable pub better_by : (ℕ → ℕ → Float) → (ℕ → ℕ → Bool) → ℕ → ℕ → Choice → Choice
better_by delta pass cut1 cut2 best =
    cond (lt (delta cut1 cut2) best.delta && pass cut1 cut2) (record { cut1 = cut1; cut2 = cut2; delta = delta cut1 cut2 }) best
