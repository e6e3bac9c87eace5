-- A moved piece keeps the list's visits, so what a run asks of the list still holds. Assumes nothing.
use mathlib.Core.Path.{◌≡◌, refl, ap, ◌∙◌}
use mathlib.Core.List.{List}
use Prim.Native.Nat.{ℕ, ◌-◌}
use native.Mathlib.Omega.{arith}
use borrow.Author.Tests.{ltb-true, lt-ltb}
use lib.Dec.{ltb}
use lib.ListN.{length, get_or}
use Rattle.labels.specs.Columns.{Columns, Visits}
use Rattle.edits.specs.Edits.{put_before}
use Rattle.edits.proofs.Kept.{same_put_before, same_each, same_length}
use Rattle.descent.specs.Within.{Piece, put_before_lem}
use Rattle.segments.specs.Segments.{Asked, Fits}
use Rattle.segments.specs.declared.Terms.{Terms}

-- the edit is the definition's
pub is_put : (xs : List ℕ) (p : Piece) → put_before p.from p.size p.to xs ≡ put_before_lem xs p
unfolding put_before
is_put xs p = refl

pub visits_moved : (l : ℕ) (xs : List ℕ) (p : Piece) → Visits l xs → Fits (length xs) p → Visits l (put_before_lem xs p)
visits_moved l xs p v fits =
    let ys = put_before p.from p.size p.to xs in
    let same = same_put_before p.from p.size p.to xs fits.apart in
    let still = same_each (λ visit. ltb visit l) xs ys same (λ k h. lt-ltb (get_or xs k 0) l (v.below k h)) in
    rw (← (is_put xs p)) (record {
      few = rw (same_length xs ys same) v.few;
      below = λ k h. ltb-true (get_or ys k 0) l (still k h);
    })

pub asked_moved : (c : Columns) (t : Terms) (xs : List ℕ) (p : Piece) → Asked c t xs → Fits (length xs) p → Asked c t (put_before_lem xs p)
asked_moved c t xs p asked fits = record {
  formed = asked.formed;
  depot_there = asked.depot_there;
  visits = visits_moved c.l xs p asked.visits fits;
  needed = asked.needed;
  floor = asked.floor;
}

-- a copy of the list whose piece was moved
pub made_is : (xs copy after : List ℕ) (p : Piece) → copy ≡ xs → after ≡ put_before p.from p.size p.to copy → after ≡ put_before_lem xs p
made_is xs copy after p e f = f ∙ ap (put_before p.from p.size p.to) e ∙ is_put xs p
