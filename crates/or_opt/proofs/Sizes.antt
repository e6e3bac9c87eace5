-- The piece lengths in turn: what is taken at a length has that length and can be moved, and a sweep goes on with the next. Assumes nothing.
use mathlib.Core.Path.{◌≡◌, refl, sym, ap, ◌∙◌}
use mathlib.Core.Logic.{inl, inr}
use mathlib.Core.Option.{some}
use mathlib.Core.List.{List}
use Prim.Native.Nat.{ℕ, suc, ◌+◌, ◌≤◌, ◌<◌}
use native.Mathlib.Numerals.{add-one}
use native.Mathlib.Omega.{arith}
use lib.ListN.{length}
use lib.Ieee.{lt}
use Rattle.std.specs.Prelude.{Some, None}
use Rattle.labels.specs.Columns.{Columns}
use Rattle.edits.specs.Edits.{put_before}
use Rattle.edits.proofs.Kept.{same_put_before, same_length}
use Rattle.descent.specs.Order.{range}
use Rattle.descent.specs.Search.{ok, taken, first_move}
use Rattle.descent.specs.Within.{pieces, put_before_lem}
use Rattle.descent.proofs.Loops.{range_step, range_done, place_passed, place_moved}
use Rattle.descent.proofs.Sweeps.{first_least-some}
use Rattle.descent.proofs.OrOpt.{Positioned, pieces_in}
use Rattle.segments.specs.Segments.{last_position, search_of, judge_of, delta_at, Asked, Fits, placed}
use Rattle.engine.specs.Engine.{Leads}
use Rattle.engine.specs.Best.{found_as}
use Rattle.or_opt.specs.OrOpt.{at, Apt, after, Led}
use Rattle.segments.specs.declared.Terms.{Terms}
use Rattle.segments.specs.declared.Change.{Change}
use Rattle.segments.proofs.Moved.{is_put, asked_moved}
use Rattle.segment_moves.proofs.Rows.{reach}

module _ (c : Columns) (t : Terms) (xs : List ℕ) where
  -- what is taken is of this length, and can be moved
  pub fits_taken : (size : ℕ) (m : Change) → found_as placed (Some m) ≡ taken (search_of c t) (judge_of c t) xs size → (m.size ≡ size) × Fits (length xs) (placed m)
  unfolding taken found_as
  fits_taken size m e =
      let there = first_least-some (ok (search_of c t) (judge_of c t) xs) (λ p best. lt (delta_at c t xs p) (delta_at c t xs best))
      (pieces last_position (length xs) size) (placed m) (sym e) in
      let at = pieces_in last_position reach (length xs) size (placed m) there.0 in
      let same : m.size ≡ size = at.0 in
      let inside : m.from + size ≤ length xs = at.1 in
      (same, go same inside at.2)
    where
      go : m.size ≡ size → m.from + size ≤ length xs → Positioned last_position (length xs) size m.from m.to → Fits (length xs) (placed m)
      go same inside (inl earlier) = record { inside = omega arith; there = omega arith; apart = inl earlier }
      go same inside (inr later) =
          let behind : m.from + size < m.to = later.0 in
          let last : m.to ≤ last_position (length xs) size = later.1 in
          let within = reach (length xs) size in
          record { inside = omega arith; there = omega arith; apart = inr (omega arith) }

  -- at a length that has a move; at one that has none; behind the last
  pub size-moves : (size ahead : ℕ) (m : Change) → size < 4 → Asked c t xs → found_as placed (Some m) ≡ taken (search_of c t) (judge_of c t) xs size
      → Led (first_move (search_of c t) (judge_of c t) xs (range size 4)) c t xs ahead (Some m)
  unfolding Leads found_as
  size-moves size ahead m h asked e =
      let fits = fits_taken size m e in
      let here : first_move (search_of c t) (judge_of c t) xs (range size 4) ≡ some (at (put_before_lem xs (placed m)) (suc size)) =
      rw (range_step size 4 h) (place_moved (search_of c t) (judge_of c t) xs size (range (suc size) 4) (placed m) (sym e)) in
      ((asked, fits.1), refl, here ∙ ap (λ (k : ℕ). some (at (put_before_lem xs (placed m)) (suc k))) (sym fits.0))

  pub size_passed : (size : ℕ) → size < 4 → found_as placed None ≡ taken (search_of c t) (judge_of c t) xs size
      → first_move (search_of c t) (judge_of c t) xs (range (size + 1) 4) ≡ first_move (search_of c t) (judge_of c t) xs (range size 4)
  unfolding found_as
  size_passed size h e = rw (add-one size, range_step size 4 h) (sym (place_passed (search_of c t) (judge_of c t) xs size (range (suc size) 4) (sym e)))

  pub sizes_done : (size ahead : ℕ) → 4 ≤ size → Led (first_move (search_of c t) (judge_of c t) xs (range size 4)) c t xs ahead None
  unfolding Leads first_move
  sizes_done size ahead h = rw (range_done size 4 h) (refl, refl)

-- a move that was made
module _ (c : Columns) (t : Terms) (xs : List ℕ) (m : Change) (ys : List ℕ) (apt : Apt c t xs m) (edit : ys ≡ put_before m.from m.size m.to xs) where
  pub made : at ys (m.size + 1) ≡ after xs m
  made = rw (edit, add-one m.size, is_put xs (placed m))

  pub made_asked : Asked c t ys
  made_asked = rw (edit, is_put xs (placed m)) (asked_moved c t xs (placed m) apt.0 apt.1)

  pub made_length : length ys ≡ length xs
  made_length = ap length edit ∙ same_length xs (put_before m.from m.size m.to xs) (same_put_before m.from m.size m.to xs apt.1.apart)
