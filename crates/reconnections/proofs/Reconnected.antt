-- A reconnected list has the visits of the list, each as often: the pieces are arranged anew. So its length and its locations are kept.
-- Assumes nothing.
use mathlib.Core.Path.{◌≡◌, sym, ap, ◌∙◌}
use mathlib.Core.List.{List}
use Prim.Native.Nat.{ℕ, suc, ◌+◌, ◌-◌}
use native.Mathlib.Nat.{sub-zero}
use native.Mathlib.Omega.{arith}
use borrow.Author.Tests.{lt-ltb, ltb-true}
use lib.Dec.{ltb}
use lib.ListN.{length, get_or, take, drop}
use Rattle.edits.specs.Total.{total, sums, SameVisits}
use Rattle.edits.proofs.Cuts.{cut4}
use Rattle.edits.proofs.Kept.{same_each, same_length}
use Rattle.labels.specs.Columns.{Visits}
use Rattle.descent.specs.Within.{reconnect}
use Rattle.descent.proofs.Kept.{total-arranged}
use Rattle.layouts.specs.Layout.{arrangement, layout, laid, CutIn}
use Rattle.layouts.specs.declared.Way.{Way}
use Rattle.layouts.specs.declared.Layout.{Layout}
use Rattle.layouts.proofs.Layouts.{reconnection_cut, reconnection_is}
use Rattle.reconnections.specs.Reconnections.{Inside, reconnection}
use Rattle.reconnections.specs.declared.Place.{Place}

module _ (xs : List ℕ) (place : Place) (way : Way) (inside : Inside (length xs) place) where
  pub same_reconnected : SameVisits xs (reconnect xs (reconnection place way))
  same_reconnected f =
      let whole = simp sums at (ap (total f) (cut4 xs (suc place.i) (suc place.j) (suc place.k) (omega arith) (omega arith))) in
      simp (sums, total-arranged) (omega arith)

  pub length-reconnected : length (reconnect xs (reconnection place way)) ≡ length xs
  length-reconnected = same_length xs (reconnect xs (reconnection place way)) same_reconnected

  pub visits_reconnected : (l : ℕ) → Visits l xs → Visits l (reconnect xs (reconnection place way))
  visits_reconnected l v = record {
    few = rw length-reconnected v.few;
    below = λ k h. ltb-true (get_or (reconnect xs (reconnection place way)) k 0) l
        (same_each (λ v. ltb v l) xs (reconnect xs (reconnection place way)) same_reconnected (λ i t. lt-ltb (get_or xs i 0) l (v.below i t)) k h);
  }

-- a layout with the cuts of a place, arranged in a way
module _ (place : Place) (way : Way) {l : Layout} (e : l ≡ layout (place.i + 1) (place.j + 1) (place.k + 1) (arrangement way)) where
  -- its cuts stand in order
  pub cut_in : {n : ℕ} → Inside n place → CutIn n l
  cut_in {n} inside = rw e (reconnection_cut n place.i place.j place.k (arrangement way) inside.i_first inside.j_next inside.k_there)

  -- the list laid out so is the list as the way has it
  pub laid_out : (xs : List ℕ) → laid xs l ≡ reconnect xs (reconnection place way)
  laid_out xs = ap (laid xs) e ∙ reconnection_is xs place.i place.j place.k (arrangement way)

  -- and so are the buffer's first visits
  pub built : (xs buffer : List ℕ) → take (length xs - 0) buffer ≡ drop 0 (laid xs l) → take (length xs) buffer ≡ reconnect xs (reconnection place way)
  built xs buffer made = ap (λ (k : ℕ). take k buffer) (sym (sub-zero (length xs))) ∙ made ∙ laid_out xs
