-- What `from_fn` makes with a closure that its calls leave as it was. Assumes nothing.
use Rattle.std.proofs.Common.{◌≡◌, ℕ, zero, suc, ◌+◌, ◌<◌, List, Some, slice_get, sym, subst, arith, add-zero, zero-add}
use Rattle.std.proofs.lemmas.Option.{slice_get_read}
use Rattle.std.specs.Array.{IsElementAt, IsFromFnResult, IsFromFnResultFrom}
use Rattle.std.specs.Fn.{Called}
use denote.Param.Members.{Mut}

module _ {F B : Type 0} (m : Mut F (ℕ × Unit {0}) B) (R : ℕ → B → Type 0) (f : F) (same : (i : ℕ) (y : B) (q : F) → Called m f (i, tt) y q → (q ≡ f) × R i y) (ys : List B) where
  -- of the calls at the numbers from i on, the one at i + k made that entry
  made_from : (i n k : ℕ) → k < n → IsFromFnResultFrom m f ys i n → (y : B) × IsElementAt ys (i + k) y × R (i + k) y
  made_from i zero k h made = absurd (omega arith)
  made_from i (suc n) zero h (q, y, here, called, rest) = rw add-zero (y, here, (same i y q called).1)
  made_from i (suc n) (suc k) h (q, y, here, called, rest) =
      let e : i + suc k ≡ i + 1 + k = omega arith in
      let left : IsFromFnResultFrom m f ys (i + 1) n = subst (λ (p : F). IsFromFnResultFrom m p ys (i + 1) n) (same i y q called).0 rest in
      rw e (made_from (i + 1) n k (omega arith) left)

  -- the call at k made the entry there
  pub made_each : (n k : ℕ) → k < n → IsFromFnResult m f ys n → (y : B) × (slice_get ys k ≡ Some y) × R k y
  made_each n k h made =
      let made_there : (y : B) × IsElementAt ys k y × R k y = rw (← zero-add k) (made_from 0 n k h made.each) in
      let (y, here, call) = made_there in
      (y, slice_get_read ys n k y (sym made.long) h (sym here.0), call)
