-- How a run of cross-depot ends, by descent's law of every run: stopped after exactly as many moves as the limit, and settled where no move is left.
-- Assumes nothing.
use mathlib.Core.Path.{◌≡◌}
use mathlib.Core.Option.{none}
use mathlib.Core.List.{List}
use Prim.Native.Nat.{ℕ}
use lib.IntN.{ℤ}
use Rattle.labels.specs.Columns.{Columns}
use Rattle.descent.specs.Search.{settled, stopped, next}
use Rattle.descent.proofs.Runs.{ran}
use Rattle.fleet.specs.Fleet.{Fleet}
use Rattle.cross_moves.specs.CrossDepot.{Plan, search_of, judge_of, run_of}

module _ (c : Columns) (demand : List ℤ) (fleet : Fleet) (limit : ℕ) (p : Plan) where
  -- '`stopped` only after exactly as many moves as the limit'
  pub stopped-at_limit : (run_of c demand fleet limit p).word ≡ stopped → (run_of c demand fleet limit p).moves ≡ limit
  unfolding run_of
  stopped-at_limit w = ((ran (next (search_of c demand fleet) (judge_of c demand fleet)) limit _).stops w).0

  pub settled_at_none : (run_of c demand fleet limit p).word ≡ settled
      → next (search_of c demand fleet) (judge_of c demand fleet) (run_of c demand fleet limit p).last ≡ none
  unfolding run_of
  settled_at_none w = (ran (next (search_of c demand fleet) (judge_of c demand fleet)) limit _).settles w
