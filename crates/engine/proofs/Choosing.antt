-- One candidate more against the best so far: the code's two tests, of its figure against the bound and then whether it passes, choose as descent's scans do
-- (proofs/Scanning.antt). And candidates part by part. Assumes nothing.
use mathlib.Core.Path.{◌≡◌, refl, sym, ap, ◌∙◌}
use mathlib.Core.Bool.{Bool, true, false, ◌&&◌}
use mathlib.Core.Option as maybe
use mathlib.Core.List.{List, [], ◌∷◌, ◌++◌, map}
use Prim.Native.Nat.{ℕ, suc, ◌+◌, ◌≤◌, ◌<◌}
use native.Mathlib.Numerals.{add-one}
use lib.Ieee.{Float, lt}
use Rattle.std.specs.Prelude.{Some, None}
use Rattle.tests.specs.All.{and_left, and_right}
use Rattle.descent.specs.Order.{range, each}
use Rattle.descent.specs.Scan.{onward, figure, Counted}
use Rattle.descent.proofs.Loops.{range_step, range_done}
use Rattle.descent.proofs.Scanning.{onward_append, onward_better, counted_better, onward_stays, onward_end}
use Rattle.descent.proofs.Members.{and_both}
use Rattle.engine.specs.Best.{found_as, Known, Among, Onto}
use Rattle.engine.specs.declared.best.Best.{Best}

module _ {M C : Type 0} (meant : M → C) (delta : C → Float) (pass : C → Bool) (bound : Float) where
  -- nothing found so far
  pub known_nothing : Known meant delta pass bound (record { bound = bound; found = None })
  unfolding found_as figure Counted
  known_nothing = record { figured = refl; counted = tt }

  -- no candidate more
  pub among_none : (best : Best M) → Known meant delta pass bound best → Among meant delta pass bound best [] best
  among_none best known = record { chosen = sym (onward_end delta pass bound (found_as meant best.found)); known = known }

  -- some candidates more, and then others
  pub among_more : (best new last : Best M) (cs ds : List C) → Among meant delta pass bound best cs new → Among meant delta pass bound new ds last
      → Among meant delta pass bound best (cs ++ ds) last
  among_more best new last cs ds one other = record {
    chosen = other.chosen ∙ ap (λ (o : maybe.Option C). onward delta pass bound o ds) one.chosen
        ∙ onward_append delta pass bound (found_as meant best.found) cs ds;
    known = other.known;
  }

  module _ (best : Best M) (one : M) (x : Float) (known : Known meant delta pass bound best) (is : x ≡ delta (meant one)) where
    stays : (lt (delta (meant one)) (figure delta pass bound (found_as meant best.found)) && pass (meant one)) ≡ false
        → Among meant delta pass bound best (meant one ∷ []) best
    stays e = record {
      chosen = sym (onward_stays delta pass bound (found_as meant best.found) (meant one) [] e ∙ onward_end delta pass bound (found_as meant best.found));
      known = known;
    }

    -- it is not below the bound
    pub among_above : lt x best.bound ≡ false → Among meant delta pass bound best (meant one ∷ []) best
    among_above e = stays (and_left (lt (delta (meant one)) (figure delta pass bound (found_as meant best.found))) (pass (meant one)) (rw (is, known.figured) at e))

    -- it does not pass
    pub among_failing : pass (meant one) ≡ false → Among meant delta pass bound best (meant one ∷ []) best
    among_failing e = stays (and_right (lt (delta (meant one)) (figure delta pass bound (found_as meant best.found))) (pass (meant one)) e)

    -- it is below, and passes
    pub among_taken : lt x best.bound ≡ true → pass (meant one) ≡ true
        → Among meant delta pass bound best (meant one ∷ []) (record { bound = x; found = Some one })
    unfolding found_as figure
    among_taken e f =
        let both = and_both _ (pass (meant one)) (rw (is, known.figured) at e) f in
        record {
          chosen = sym (onward_better delta pass bound (found_as meant best.found) (meant one) [] known.counted both ∙ onward_end delta pass bound _);
          known = record { figured = is; counted = counted_better delta pass bound (found_as meant best.found) (meant one) known.counted both };
        }

  -- a loop over candidates: it starts with all ahead; a turn takes some; and none is left at the end
  pub onto_starts : (best : Best M) (cs : List C) → Known meant delta pass bound best → Onto meant delta pass bound best cs best cs
  onto_starts best cs known = record { known = known; onto = λ last h. h }

  module _ (start : Best M) (all : List C) (best : Best M) where
    pub onto_turns : (new : Best M) (cs rest : List C) → Onto meant delta pass bound start all best (cs ++ rest) → Among meant delta pass bound best cs new
        → Onto meant delta pass bound start all new rest
    onto_turns new cs rest loop turn = record { known = turn.known; onto = λ last h. loop.onto last (among_more best new last cs rest turn h) }

    pub onto_ends : Onto meant delta pass bound start all best [] → Among meant delta pass bound start all best
    onto_ends loop = loop.onto best (among_none best loop.known)

    -- over `k..e`, one candidate or several at each
    pub turn_one : (f : ℕ → C) (new : Best M) (k e : ℕ) → k < e → Onto meant delta pass bound start all best (map f (range k e))
        → Among meant delta pass bound best (f k ∷ []) new → Onto meant delta pass bound start all new (map f (range (k + 1) e))
    turn_one f new k e h loop turn = rw add-one (onto_turns new (f k ∷ []) (map f (range (suc k) e)) (rw (range_step k e h) at loop) turn)

    pub end_one : (f : ℕ → C) (k e : ℕ) → e ≤ k → Onto meant delta pass bound start all best (map f (range k e)) → Among meant delta pass bound start all best
    end_one f k e h loop = onto_ends (rw (range_done k e h) at loop)

    pub turn_each : (f : ℕ → List C) (new : Best M) (k e : ℕ) → k < e → Onto meant delta pass bound start all best (each (range k e) f)
        → Among meant delta pass bound best (f k) new → Onto meant delta pass bound start all new (each (range (k + 1) e) f)
    turn_each f new k e h loop turn = rw add-one (onto_turns new (f k) (each (range (suc k) e) f) (rw (range_step k e h) at loop) turn)

    pub end_each : (f : ℕ → List C) (k e : ℕ) → e ≤ k → Onto meant delta pass bound start all best (each (range k e) f) → Among meant delta pass bound start all best
    end_each f k e h loop = onto_ends (rw (range_done k e h) at loop)
