-- A scan for the first least that counts and passes, from any candidate on: one test, 'below the best so far', does for both. Assumes nothing.
use Rattle.std.specs.Prelude.{◌≡◌, Bool, true, ◌&&◌, List, Float}
use Rattle.std.proofs.Math.Option.{Option, none, some}
use Rattle.std.specs.Float.Ieee.{lt}
use Rattle.descent.specs.Search.{least, first_least}

module _ {C : Type 0} (may : C → Bool) (less : C → C → Bool) where
  -- 01: 'choice of the first least', where there is a best so far, or none
  unfoldable pub chosen : Option C → List C → Option C
  chosen none cs = first_least may less cs
  chosen (some best) cs = some (least may less best cs)

module _ {C : Type 0} (delta : C → Float) (pass : C → Bool) (bound : Float) where
  -- a candidate counts and passes
  abbrev pub may : C → Bool
  may c = lt (delta c) bound && pass c

  -- the lesser delta is the better
  abbrev pub less : C → C → Bool
  less c best = lt (delta c) (delta best)

  -- what a scan comes to from here: none so far, or the best
  unfoldable pub onward : Option C → List C → Option C
  onward o cs = chosen may less o cs

  -- what the next one has to be below
  unfoldable pub figure : Option C → Float
  figure none = bound
  figure (some best) = delta best

  -- the best so far counts
  unfoldable pub Counted : Option C → Type 0
  Counted none = Unit {0}
  Counted (some best) = lt (delta best) bound ≡ true
