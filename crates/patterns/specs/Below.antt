-- Whether a pattern at a cut is below a bar: what is asked of a place before its patterns are scanned. For src/. Assumes nothing.
use Rattle.std.specs.Prelude.{Bool, true, false, ◌||◌, ℕ, Float}
use Rattle.std.specs.Float.Ieee.{lt}
use Rattle.deltas.specs.Changes.{pattern_change}
use Rattle.deltas.specs.declared.Cut.{Cut}

-- the pattern changes the distance by less than the bar
abbrev pub below : (ℕ → ℕ → Float) → Cut → Float → Bool → Bool → Bool → Bool
below d cut bar exchanged b-turned c-turned = lt (pattern_change d cut exchanged b-turned c-turned) bar

-- one of the patterns 1 to 7 does, in their order
unfoldable pub any_below : (ℕ → ℕ → Float) → Cut → Float → Bool
any_below d cut bar =
    below d cut bar false false true || (below d cut bar false true false || (below d cut bar false true true || (below d cut bar true false false
    || (below d cut bar true true false || (below d cut bar true false true || below d cut bar true true true)))))
