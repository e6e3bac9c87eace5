-- What the public run answers: the lists as given where there are fewer than two or no van, and else what the search leaves. Assumes nothing.
use mathlib.Core.Path.{◌≡◌, refl, sym, ◌∙◌}
use mathlib.Core.Logic.{◌≢◌}
use mathlib.Core.Bool.{Bool, true, false, ◌||◌, false≢true}
use mathlib.Core.List.{List, append-nil}
use Prim.Native.Nat.{ℕ, ◌-◌, ◌<◌}
use native.Mathlib.Omega.{arith}
use borrow.Author.Tests.{eqb-false}
use lib.Dec.{eqb, ltb}
use lib.IntN.{ℤ}
use lib.ListN.{length}
use lib.Ieee.{Float}
use Rattle.edits.specs.Total.{SameVisits}
use Rattle.lists.specs.Table.{Laid, lists}
use Rattle.lists.proofs.Tables.{length-lists, flat-lists, lengths_lists}
use Rattle.labels.specs.Columns.{Columns}
use Rattle.descent.specs.Search.{settled}
use Rattle.engine.specs.Engine.{ended_as}
use Rattle.engine.specs.declared.Ended.TheVariants.{Settled}
use Rattle.fleet.specs.Fleet.{Fleet}
use Rattle.cross_moves.specs.CrossDepot.{lent_plan, run_of, ran_of, cross_ran, Carried}
use Rattle.cross_runs.specs.Tables.{Handed, crossed_of}
use Rattle.cross_runs.specs.declared.Crossed.{Crossed}
use Rattle.cross_runs.proofs.Going.{Answered}
use Rattle.cross_depot.proofs.Carrying.{carried_as_given, carried_by_run}

-- where the search is made there is a van
pub some_van : (few : Bool) (vans : ℕ) → (few || eqb vans 0) ≡ false → 0 < vans
some_van true vans e = absurd (false≢true (sym e))
some_van false vans e = let some : vans ≢ 0 = eqb-false vans 0 e in omega arith

module _ (c : Columns) (demand : List ℤ) (fleet : Fleet) (limit : ℕ) (visits lengths ids : List ℕ) (prices : List Float) (laid : Laid visits lengths)
    (even : length ids ≡ length lengths) where
  -- what is to be shown of an answer and of the tables
  abbrev pub Improved : Crossed → List ℕ → List ℕ → List ℕ → Type 0
  Improved r visits' lengths' ids' =
      let ran = cross_ran c demand fleet limit (lists visits lengths) ids prices in
      (r ≡ crossed_of ran) × Handed ran.lists ran.ids (length lengths) visits' lengths' ids' × SameVisits visits visits'
      × Carried demand fleet (lists visits lengths) ids ran.lists ran.ids

  even_lists : length ids ≡ length (lists visits lengths)
  even_lists = even ∙ sym (length-lists visits lengths)

  given : (ltb (length lengths) 2 || eqb (length fleet.ids) 0) ≡ true
      → cross_ran c demand fleet limit (lists visits lengths) ids prices ≡ record { word = settled; moves = 0; lists = lists visits lengths; ids = ids }
  unfolding cross_ran
  given e = rw (length-lists visits lengths, e)

  searched : (ltb (length lengths) 2 || eqb (length fleet.ids) 0) ≡ false
      → cross_ran c demand fleet limit (lists visits lengths) ids prices ≡ ran_of (run_of c demand fleet limit (lent_plan fleet (lists visits lengths) ids prices))
  unfolding cross_ran
  searched e = rw (length-lists visits lengths, e)

  handed_as_given : Handed (lists visits lengths) ids (length lengths) visits lengths ids
  handed_as_given =
      let none : length lengths - length (lists visits lengths) ≡ 0 = rw (length-lists visits lengths) (omega arith) in
      record {
        visits_are = sym (flat-lists visits lengths laid.add_up);
        lengths_are = rw (none, lengths_lists visits lengths laid.add_up) (sym (append-nil lengths));
        ids_are = rw none (sym (append-nil ids));
      }

  pub improves_as_given : (ltb (length lengths) 2 || eqb (length fleet.ids) 0) ≡ true
      → Improved (record { ended = Settled 0; lists = length lengths }) visits lengths ids
  unfolding ended_as
  improves_as_given e =
      rw (given e)
      (rw (length-lists visits lengths), handed_as_given, λ f. refl, carried_as_given c demand fleet limit (lists visits lengths) ids even_lists)

  pub improves_by_search : (r : Crossed) (visits' lengths' ids' : List ℕ) → (ltb (length lengths) 2 || eqb (length fleet.ids) 0) ≡ false
      → Answered c demand fleet limit (lent_plan fleet (lists visits lengths) ids prices) 0 r (length lengths) visits visits' lengths' ids'
      → Improved r visits' lengths' ids'
  improves_by_search r visits' lengths' ids' e told =
      rw (searched e) (told.0, told.1, told.2, carried_by_run c demand fleet limit (lists visits lengths) ids even_lists prices)
