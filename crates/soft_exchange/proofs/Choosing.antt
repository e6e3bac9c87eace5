-- The scan over two lists' cuts takes the first least of the exchanges that count and pass, by the law of `exchange_sweeps`. Assumes nothing.
use mathlib.Core.Path.{◌≡◌}
use mathlib.Core.Bool.{◌&&◌}
use mathlib.Core.List.{List}
use Prim.Native.Nat.{ℕ}
use lib.IntN.{ℤ}
use lib.ListN.{length}
use Rattle.labels.specs.Columns.{Columns}
use Rattle.list_changes.specs.Edits.{joined}
use Rattle.descent.specs.Permitted.{room}
use Rattle.descent.specs.Search.{ok, taken}
use Rattle.descent.specs.Scan.{chosen, onward}
use Rattle.descent.specs.Across.{at, Pair}
use Rattle.tail_candidates.specs.declared.Choice.{Choice}
use Rattle.tail_candidates.specs.declared.Terms.{Terms}
use Rattle.tails.specs.Best.{best_by}
use Rattle.tail_prices.specs.Tails.{priced, change}
use Rattle.tail_prices.specs.Changes.{cost_in}
use Rattle.soft_tail_candidates.specs.Candidate.{measures_for}
use Rattle.exchange_sweeps.specs.Exchange.{taken_at}
use Rattle.exchange_sweeps.proofs.Choosing.{taken_of, best_first}
use Rattle.soft_exchange.specs.Rules.{passes_of, judge_of, rules_of}

module _ (c : Columns) (demand : List ℤ) (t : Terms) where
  -- the best exchange of two lists
  abbrev pub best_of : List ℕ → List ℕ → Choice
  best_of X Y =
      let cost = cost_in c t in
      let measures = measures_for demand t in
      best_by (λ i k. change cost X Y (joined X i Y k) (joined Y k X i))
      (λ i k. (room measures (joined X i Y k) && room measures (joined Y k X i)) && priced cost X Y) (length X) (length Y) t.floor

  -- is what is taken
  pub best_taken : (ls : List (List ℕ)) (p : Pair) → taken_of (rules_of c demand t) best_of (at ls p.one) (at ls p.other) p ≡ taken_at (rules_of c demand t) ls p
  unfolding taken passes_of judge_of ok onward chosen
  best_taken ls p = best_first p ((judge_of c t).delta ls) (passes_of c demand t ls) t.floor (length (at ls p.one)) (length (at ls p.other))
