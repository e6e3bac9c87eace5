-- The scan over two lists' cuts takes the first least of the exchanges that count and pass, by the law of `exchange_sweeps`. Assumes nothing.
use mathlib.Core.Path.{◌≡◌}
use mathlib.Core.List.{List}
use Prim.Native.Nat.{ℕ}
use lib.IntN.{ℤ}
use lib.ListN.{length}
use Rattle.numbers.specs.Floor.{gain_floor}
use Rattle.day.specs.Matrix.{scale_of}
use Rattle.labels.specs.Columns.{Columns}
use Rattle.descent.specs.Search.{ok, taken}
use Rattle.descent.specs.Scan.{chosen, onward}
use Rattle.descent.specs.Across.{at, Pair}
use Rattle.tail_candidates.specs.Candidate.{delta_by, pass_by}
use Rattle.tail_candidates.specs.declared.Choice.{Choice}
use Rattle.tail_candidates.specs.declared.Terms.{Terms}
use Rattle.tails.specs.Best.{best_by}
use Rattle.exchange_sweeps.specs.Exchange.{taken_at}
use Rattle.exchange_sweeps.proofs.Choosing.{taken_of, best_first}
use Rattle.exchange.specs.Rules.{passes_of, judge_of, rules_of}

module _ (c : Columns) (demand : List ℤ) (t : Terms) (floor : t.floor ≡ gain_floor (scale_of c.distances)) where
  -- the best exchange of two lists
  abbrev pub best_of : List ℕ → List ℕ → Choice
  best_of X Y = best_by (delta_by c demand t X Y) (pass_by c demand t X Y) (length X) (length Y) t.floor

  -- is what is taken
  pub best_taken : (ls : List (List ℕ)) (p : Pair) → taken_of (rules_of c demand t) best_of (at ls p.one) (at ls p.other) p ≡ taken_at (rules_of c demand t) ls p
  unfolding taken passes_of judge_of ok onward chosen
  best_taken ls p =
      rw floor (best_first p ((judge_of c t).delta ls) (passes_of c demand t ls) (gain_floor (scale_of c.distances)) (length (at ls p.one))
      (length (at ls p.other)))
