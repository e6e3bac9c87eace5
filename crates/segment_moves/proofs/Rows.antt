-- A row of positions, and all rows of a piece length: what is chosen from them in turn is what the definition takes. Assumes nothing.
use mathlib.Core.Path.{◌≡◌, ap, ◌∙◌}
use mathlib.Core.List.{List, [], map-append}
use Prim.Native.Nat.{ℕ, suc, ◌+◌, ◌-◌, ◌≤◌}
use native.Mathlib.Numerals.{add-one}
use native.Mathlib.Omega.{arith}
use lib.ListN.{length}
use lib.Ieee.{neg}
use Rattle.std.specs.Prelude.{None}
use Rattle.labels.specs.Columns.{Columns}
use Rattle.descent.specs.Order.{range}
use Rattle.descent.specs.Search.{ok, first_least, taken}
use Rattle.descent.specs.Within.{pieces}
use Rattle.descent.proofs.Loops.{range_done}
use Rattle.descent.specs.Scan.{chosen, onward}
use Rattle.engine.specs.Best.{found_as}
use Rattle.engine.specs.declared.best.Best.{Best}
use Rattle.engine.proofs.Choosing.{among_more}
use Rattle.segments.specs.Segments.{last_position, search_of, judge_of, delta_at, bound_of, to_each, placed, Among}
use Rattle.segment_moves.specs.Row.{row}
use Rattle.segments.specs.declared.Terms.{Terms}
use Rattle.segments.specs.declared.Change.{Change}

-- the last position is within the list, whichever it is
pub reach : (n size : ℕ) → last_position n size ≤ n
reach n size = omega arith

-- a piece as long as the list, or longer, has no position to go to
pub too_long : (last : ℕ → ℕ → ℕ) → ((n size : ℕ) → last n size ≤ n) → (n size : ℕ) → n ≤ size → pieces last n size ≡ []
too_long last within n size h =
    let none_left : n - size ≡ 0 = omega arith in
    rw (none_left, range_done (suc (0 + size)) (suc (last n size)) (omega (arith, within n size)))

module _ (c : Columns) (t : Terms) (xs : List ℕ) where
  -- a row of positions, those before the piece and then those behind it
  pub row-chosen : (n size from last : ℕ) (best first new : Best Change) → last ≡ last_position n size
      → Among c t xs best (to_each size from (range 0 from)) first → Among c t xs first (to_each size from (range (from + size + 1) (last + 1))) new
      → Among c t xs best (row n size from) new
  row-chosen n size from last best first new e p q =
      rw map-append (among_more _ _ _ _ best first new _ _ p (rw (e, add-one (from + size), add-one (last_position n size)) at q))

  -- the best of all, from nothing on, is what is taken
  pub all_chosen : (size : ℕ) (start best : Best Change) → start ≡ record { bound = neg t.floor; found = None }
      → Among c t xs start (pieces last_position (length xs) size) best → found_as placed best.found ≡ taken (search_of c t) (judge_of c t) xs size
  unfolding taken ok onward chosen found_as
  all_chosen size start best e among = among.chosen ∙ ap (λ (b : Best Change). onward (delta_at c t xs) ((search_of c t).passes xs) (bound_of c t) (found_as placed b.found) (pieces last_position (length xs) size)) e

  pub none_chosen : (size : ℕ) → length xs ≤ size → found_as placed None ≡ taken (search_of c t) (judge_of c t) xs size
  unfolding taken first_least found_as
  none_chosen size h = rw (too_long last_position reach (length xs) size h)
