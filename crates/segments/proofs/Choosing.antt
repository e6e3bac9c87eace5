-- One position more, as the code tries it: the delta that it works out and the check that it makes are the definition's, so that each of its three ends is one
-- of a scan's turn (engine's proofs/Choosing.antt). Assumes nothing.
use mathlib.Core.Path.{◌≡◌, sym, ap, ◌∙◌}
use mathlib.Core.Bool.{Bool, true, false}
use mathlib.Core.List.{List, [], ◌∷◌}
use Prim.Native.Nat.{ℕ}
use lib.Ieee.{Float, lt, neg}
use Rattle.std.specs.Prelude.{Some, None}
use Rattle.numbers.specs.Operations.{◌⊖◌}
use Rattle.labels.specs.Columns.{Columns}
use Rattle.day.specs.Matrix.{leg}
use Rattle.descent.specs.Within.{Piece, put_before_lem}
use Rattle.deltas.specs.Deltas.{removal_gain, piece_insertion, or_opt_delta}
use Rattle.engine.specs.Engine.{passing}
use Rattle.engine.specs.declared.best.Best.{Best}
use Rattle.engine.proofs.Choosing.{known_nothing, among_above, among_failing, among_taken}
use Rattle.segments.specs.Segments.{search_of, delta_at, bound_of, Asked, placed, Known, Among}
use Rattle.segments.specs.declared.Terms.{Terms}
use Rattle.segments.specs.declared.Change.{Change}

module _ (c : Columns) (t : Terms) (xs : List ℕ) (asked : Asked c t xs) where
  -- nothing found so far
  pub known_start : Known c t xs (record { bound = neg t.floor; found = None })
  known_start = rw asked.floor (known_nothing placed (delta_at c t xs) ((search_of c t).passes xs) (bound_of c t))

  -- the delta as the code works it out
  pub delta_is : (p : Piece) (cost gain : Float) → cost ≡ piece_insertion (leg c.l c.distances) t.depot xs p.size p.from p.to
      → gain ≡ removal_gain (leg c.l c.distances) t.depot xs p.size p.from → cost ⊖ gain ≡ delta_at c t xs p
  unfolding or_opt_delta
  delta_is p cost gain e f = rw (e, f)

  module _ (best : Best Change) (m : Change) (delta : Float) (known : Known c t xs best) (is : delta ≡ delta_at c t xs (placed m)) where
    -- not below the best so far; below it, but the list does not pass; below it, and the list passes
    pub not_below : lt delta best.bound ≡ false → Among c t xs best (placed m ∷ []) best
    not_below e = among_above placed (delta_at c t xs) ((search_of c t).passes xs) (bound_of c t) best m delta known is e

    module _ (passed : Bool) (asks : passed ≡ passing t.needed c t.limits t.depot (put_before_lem xs (placed m))) where
      passed_is : passed ≡ (search_of c t).passes xs (placed m)
      passed_is = asks ∙ ap (λ (b : Bool). passing b c t.limits t.depot (put_before_lem xs (placed m))) asked.needed

      pub not-passing : passed ≡ false → Among c t xs best (placed m ∷ []) best
      not-passing e = among_failing placed (delta_at c t xs) ((search_of c t).passes xs) (bound_of c t) best m delta known is (sym passed_is ∙ e)

      pub taken_up : lt delta best.bound ≡ true → passed ≡ true → Among c t xs best (placed m ∷ []) (record { bound = delta; found = Some m })
      taken_up e f = among_taken placed (delta_at c t xs) ((search_of c t).passes xs) (bound_of c t) best m delta known is e (sym passed_is ∙ f)
