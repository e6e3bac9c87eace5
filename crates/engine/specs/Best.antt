-- The best so far of some candidates, by a figure that is an f64, as descent's scans have it (specs/Scan.antt). For the engines' contracts. Assumes nothing.
use Rattle.std.specs.Prelude.{◌≡◌, Bool, cond, List, Float, Option, Some, None}
use Rattle.std.proofs.Math.Option as maybe
use Rattle.std.proofs.Math.Option.{none, some}
use Rattle.std.specs.Float.Ieee.{lt}
use Rattle.descent.specs.Scan.{onward, figure, Counted}
use Rattle.engine.specs.declared.best.Best.{Best}

-- the better of the best so far and one more: the earlier stays where they are equal
unfoldable pub better : {M : Type 0} → Best M → Float → M → Best M
better best figure one = cond (lt figure best.bound) (record { bound = figure; found = Some one }) best

-- what was found, as the definition has it
unfoldable pub found_as : {M C : Type 0} → (M → C) → Option M → maybe.Option C
found_as meant None = none
found_as meant (Some one) = some (meant one)

module _ {M C : Type 0} (meant : M → C) (delta : C → Float) (pass : C → Bool) (bound : Float) where
  -- the best so far has the figure of what was found, which counts
  pub record Known (best : Best M) : Type 0 where
    pub figured : best.bound ≡ figure delta pass bound (found_as meant best.found)
    pub counted : Counted delta pass bound (found_as meant best.found)

  -- the best after some candidates more
  pub record Among (best : Best M) (candidates : List C) (new : Best M) : Type 0 where
    pub chosen : found_as meant new.found ≡ onward delta pass bound (found_as meant best.found) candidates
    pub known : Known new

  -- a loop under way: what the rest comes to from the best so far is what all come to from the start
  pub record Onto (start : Best M) (all : List C) (best : Best M) (rest : List C) : Type 0 where
    pub known : Known best
    pub onto : (last : Best M) → Among best rest last → Among start all last
