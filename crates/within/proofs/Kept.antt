-- A run within a list keeps its visits, whatever its numbers: without soft windows since it makes permitted moves only, with them by the neighbours' own law.
-- So the list that it leaves is one of the table still. Assumes nothing.
use mathlib.Core.Path.{◌≡◌}
use mathlib.Core.Bool.{Bool, true, false, cond}
use mathlib.Core.List.{List, []}
use Prim.Native.Nat.{ℕ, ◌+◌}
use native.Mathlib.Omega.{arith}
use borrow.Author.Tests.{lt-ltb, ltb-true}
use lib.Dec.{ltb}
use Rattle.numbers.specs.Floor.{gain_floor}
use Rattle.day.specs.Matrix.{scale_of}
use Rattle.day.specs.Customer.{has_soft_windows}
use Rattle.day.specs.declared.vehicle.RouteLimits.{RouteLimits}
use Rattle.edits.specs.Total.{SameVisits}
use Rattle.edits.proofs.Kept.{same_each, same_length}
use Rattle.labels.specs.Columns.{Columns, Visits}
use Rattle.descent.specs.Permitted.{two_opt, or_opt, three_opt, n_minus_length}
use Rattle.descent.proofs.Always.{kept_by}
use Rattle.deltas.specs.Judged.{float_judge}
use Rattle.engine.specs.Engine.{checks_of}
use Rattle.soft.proofs.Offices.{soft_same}
use Rattle.neighbours.specs.Neighbours.{Neighbourhood, Reverse, Relocate, Reconnect}
use Rattle.within.specs.Within.{Ran, list_map, hard_ran, ran_by}

one_less : (a b : ℕ) → a + 0 ≡ b + 0 → a ≡ b
one_less a b h = omega arith

either : (b : Bool) (list : List ℕ) (x y : Ran) → SameVisits list x.list → SameVisits list y.list → SameVisits list (cond b x y).list
either true list x y p q = p
either false list x y p q = q

module _ (c : Columns) (limits : RouteLimits) (depot limit : ℕ) (list : List ℕ) where
  hard_same : (which : Neighbourhood) → SameVisits list (hard_ran which c limits depot limit list).list
  unfolding hard_ran
  hard_same Reverse f = one_less _ _ ((kept_by two_opt (checks_of [] c limits depot) (float_judge two_opt (list_map c depot)) tt limit list).sums f)
  hard_same Relocate f =
      one_less _ _ ((kept_by (or_opt n_minus_length) (checks_of [] c limits depot) (float_judge (or_opt n_minus_length) (list_map c depot)) (λ n p. omega arith)
      limit list).sums f)
  hard_same Reconnect f = one_less _ _ ((kept_by three_opt (checks_of [] c limits depot) (float_judge three_opt (list_map c depot)) tt limit list).sums f)

  -- the same visits
  pub ran_same : (which : Neighbourhood) → SameVisits list (ran_by which c limits depot limit list).list
  unfolding ran_by
  ran_same which =
      either (has_soft_windows c.flags) list _ _ (soft_same which c limits depot (gain_floor (scale_of c.distances)) limit list) (hard_same which)

  -- as many, each a location
  pub ran_visits : (which : Neighbourhood) → Visits c.l list → Visits c.l (ran_by which c limits depot limit list).list
  ran_visits which v =
      let back = (ran_by which c limits depot limit list).list in
      let same = ran_same which in
      record {
        few = rw (same_length list back same) v.few;
        below = λ k h. ltb-true _ _ (same_each (λ x. ltb x c.l) list back same (λ i there. lt-ltb _ _ (v.below i there)) k h);
      }

  -- without a soft window the run is the engine's of demand 3
  pub ran_hard : (which : Neighbourhood) → has_soft_windows c.flags ≡ false → ran_by which c limits depot limit list ≡ hard_ran which c limits depot limit list
  unfolding ran_by
  ran_hard which none = rw none
