-- The table is right pair by pair: a search puts a pair's best in and leaves the other entries; row by row this fills the table; and after a move, which
-- changes two lists, the entries of the pairs without them are right still, and the others are put in again. Assumes nothing.
use mathlib.Core.Path.{◌≡◌, refl, sym, ap, ◌∙◌, subst}
use mathlib.Core.Logic.{◌⊎◌, inl, inr, ◌≢◌}
use mathlib.Core.Bool.{Bool, true, false, not}
use mathlib.Core.Option.{Option, none, some}
use mathlib.Core.List.{List}
use Prim.Native.Nat.{ℕ, ◌+◌, ◌≤◌, ◌<◌}
use native.Mathlib.Omega.{arith}
use native.Mathlib.Decide.{ℕ_discrete}
use borrow.Author.Tests.{lt-ltb}
use lib.Dec.{eqb}
use lib.ListN.{length-set}
use lib.Seq.{get_or-set_same, get_or-set_other}
use lib.Ieee.{Float, nan, lt}
use Rattle.numbers.proofs.Total as Total
use Rattle.descent.specs.Order.{◌∈◌}
use Rattle.descent.specs.Across.{Relocation}
use Rattle.descent.proofs.Members.{fails, true-T}
use Rattle.descent.specs.Scan.{may, onward, figure}
use Rattle.pairs.specs.Pairs.{between, Short, as_move, move_of, Sized, slot, entry, narrowed, put}
use Rattle.pairs.specs.Pairs.{found_if, is_found, pair_best, IsBest, Stored, StoredBoth, RightWhere, Right}
use Rattle.pairs.specs.Pairs.{Before, Untouched, Renewed, Agree}
use Rattle.pairs.specs.declared.Choice.{Choice}
use Rattle.pairs.specs.declared.PairTable.{PairTable}
use Rattle.pairs.proofs.Order.{better, same_move}
use Rattle.pairs.proofs.Best.{Best, best-one, best_sorted}
use Rattle.pairs.proofs.Listed.{between_sorted, Of, between_is}
use Rattle.pairs.proofs.Least.{found_move, no_move, Standing, found_delta, none_delta, pair_standing}

-- those renewed before a turn, and the turn's four
abbrev Again : ℕ → ℕ → ℕ → ℕ → ℕ → Type 0
Again a b other from to =
    (((Renewed a b other from to ⊎ ((from ≡ a) × (to ≡ other))) ⊎ ((from ≡ other) × (to ≡ a))) ⊎ ((from ≡ b) × (to ≡ other)))
    ⊎ ((from ≡ other) × (to ≡ b))

-- ---- entries

pub put-sized : (t : PairTable) (from to : ℕ) (c : Choice) → Sized t → Sized (put t from to c)
unfolding put
put-sized t from to c s = record {
  deltas_size = length-set t.deltas (slot from to) c.delta ∙ s.deltas_size;
  positions_size = length-set t.positions (slot from to) (narrowed c.position) ∙ s.positions_size;
  places_size = length-set t.places (slot from to) (narrowed c.place) ∙ s.places_size;
}

narrowed_is : (k : ℕ) → k < 65536 → narrowed k ≡ k
unfolding narrowed
narrowed_is k h = rw (lt-ltb k 65536 h)

told : (is : Bool) → not (eqb (found_if is) 0) ≡ is
unfolding found_if
told true = refl
told false = refl

-- what was put in
entry-put : (bound : Float) (t : PairTable) (from to : ℕ) (c : Choice) → Sized t → from < 16 → to < 16
    → entry bound (put t from to c) from to
    ≡ record {
      found = found_if (lt c.delta bound);
      from = from;
      position = narrowed c.position;
      to = to;
      place = narrowed c.place;
      delta = c.delta;
    }
unfolding entry put
entry-put bound t from to c s h k =
    rw (
      get_or-set_same t.deltas (slot from to) c.delta nan (omega (arith, s.deltas_size)),
      get_or-set_same t.positions (slot from to) (narrowed c.position) 0 (omega (arith, s.positions_size)),
      get_or-set_same t.places (slot from to) (narrowed c.place) 0 (omega (arith, s.places_size)),
    )

-- what stood at another pair
entry_other : (bound : Float) (t : PairTable) (a b from to : ℕ) (c : Choice) → b < 16 → to < 16 → ((from ≡ a) × (to ≡ b) → ⊥)
    → entry bound (put t a b c) from to ≡ entry bound t from to
unfolding entry put
entry_other bound t a b from to c h k differ =
    rw (
      get_or-set_other t.deltas (slot a b) (slot from to) c.delta nan apart,
      get_or-set_other t.positions (slot a b) (slot from to) (narrowed c.position) 0 apart,
      get_or-set_other t.places (slot a b) (slot from to) (narrowed c.place) 0 apart,
    )
  where
    apart : slot from to ≢ slot a b
    apart e = differ (omega arith, omega arith)

module _ (delta : Relocation → Float) (pass : Relocation → Bool) (bound : Float) (ls : List (List ℕ)) where
  pub stored_sized : (from to : ℕ) (old new : PairTable) → Sized old → Stored delta pass bound ls from to old new → Sized new
  stored_sized from to old new s r = rw r.is_put (put-sized old from to r.choice s)

  pub both_sized : (r other : ℕ) (old new : PairTable) → Sized old → StoredBoth delta pass bound ls r other old new → Sized new
  both_sized r other old new s b =
      stored_sized other r b.middle new (stored_sized r other old b.middle s b.out_of) b.into

  -- a pair's best that is found is a move of the pair
  pub pair-there : (from to : ℕ) (c : Choice) → IsBest delta pass bound ls from to c → is_found c ≡ true → Of ls from to (as_move c)
  pair-there from to c b e =
      let s = pair_standing delta pass bound ls from to c b in
      let i : Best delta pass bound (λ m. m ∈ between ls from to) (some (as_move c)) =
      subst (λ (o : Option Relocation). Best delta pass bound (λ m. m ∈ between ls from to) o) (found_move c e) s.best in
      between_is ls from to (as_move c) i.0

  -- ---- one search

  module _ (short : Short ls) where
    -- the entry says what was put in
    said : (t : PairTable) (from to : ℕ) (c : Choice) → Sized t → from < 16 → to < 16 → IsBest delta pass bound ls from to c
        → move_of (entry bound (put t from to c) from to) ≡ move_of c
    said t from to c s h k b = go (is_found c) refl
      where
        standing : Standing delta pass bound (λ m. m ∈ between ls from to) c
        standing = pair_standing delta pass bound ls from to c b

        new : Choice
        new = entry bound (put t from to c) from to

        new_found : is_found (entry bound (put t from to c) from to) ≡ lt c.delta bound
        new_found = ap (λ (z : Choice). is_found z) (entry-put bound t from to c s h k) ∙ told (lt c.delta bound)

        go : (f : Bool) → is_found c ≡ f → move_of (entry bound (put t from to c) from to) ≡ move_of c
        go true e =
            let o = pair-there from to c b e in
            let place_short = short.short to in
            let visit-short = short.short from in
            let p = narrowed_is c.position (omega (arith, o.visit_there)) in
            let q = narrowed_is c.place (omega (arith, o.place_there)) in
            let n = entry-put bound t from to c s h k in
            found_move (entry bound (put t from to c) from to) (new_found ∙ (found_delta delta pass bound (λ m. m ∈ between ls from to) c standing e).0)
            ∙ ap some (same_move _ (as_move c)
            (ap (λ (z : Choice). z.from) n ∙ sym o.is_from)
            (ap (λ (z : Choice). z.position) n ∙ p)
            (ap (λ (z : Choice). z.to) n ∙ sym o.is_to)
            (ap (λ (z : Choice). z.place) n ∙ q))
            ∙ sym (found_move c e)
        go false e =
            no_move (entry bound (put t from to c) from to)
            (new_found ∙ ap (λ (x : Float). lt x bound) (none_delta delta pass bound (λ m. m ∈ between ls from to) c standing e)
            ∙ fails (lt bound bound) (λ l. Total.lt_irrefl bound (true-T (lt bound bound) l)))
            ∙ sym (no_move c e)

    -- so it is the pair's best
    put-best : (t : PairTable) (from to : ℕ) (c : Choice) → Sized t → from < 16 → to < 16 → IsBest delta pass bound ls from to c
        → IsBest delta pass bound ls from to (entry bound (put t from to c) from to)
    put-best t from to c s h k b = record {
      best = said t from to c s h k b ∙ b.best;
      figured = ap (λ (z : Choice). z.delta) (entry-put bound t from to c s h k) ∙ b.figured
          ∙ ap (figure delta pass bound) (sym (said t from to c s h k b));
    }

    -- one pair more is right
    pub right_stored : (n a b : ℕ) (done : ℕ → ℕ → Type 0) (old new : PairTable) → n ≤ 16 → a < n → b < n → RightWhere delta pass bound ls n done old
        → Stored delta pass bound ls a b old new → RightWhere delta pass bound ls n (λ from to. done from to ⊎ ((from ≡ a) × (to ≡ b))) new
    right_stored n a b done old new few ha hb r s = rw s.is_put (record {
      sized = put-sized old a b s.choice r.sized;
      right = λ from to h k d. go from to h k d (ℕ_discrete from a) (ℕ_discrete to b);
    })
      where
        this : IsBest delta pass bound ls a b (entry bound (put old a b s.choice) a b)
        this = put-best old a b s.choice r.sized (omega arith) (omega arith) s.is_best

        other : (from to : ℕ) → from < n → to < n → done from to ⊎ ((from ≡ a) × (to ≡ b)) → ((from ≡ a) × (to ≡ b) → ⊥)
            → IsBest delta pass bound ls from to (entry bound (put old a b s.choice) from to)
        other from to h k (inl d) differ = rw (entry_other bound old a b from to s.choice (omega arith) (omega arith) differ) (r.right from to h k d)
        other from to h k (inr e) differ = absurd (differ e)

        go : (from to : ℕ) → from < n → to < n → done from to ⊎ ((from ≡ a) × (to ≡ b)) → Dec (from ≡ a) → Dec (to ≡ b)
            → IsBest delta pass bound ls from to (entry bound (put old a b s.choice) from to)
        go from to h k d (yes e) (yes f) = rw (e, f) this
        go from to h k d (yes e) (no f) = other from to h k d (λ p. f p.1)
        go from to h k d (no e) f = other from to h k d (λ p. e p.0)

  -- fewer pairs
  pub right_fewer : (n : ℕ) (done fewer : ℕ → ℕ → Type 0) (t : PairTable) → ((from to : ℕ) → from < n → to < n → fewer from to → done from to)
      → RightWhere delta pass bound ls n done t → RightWhere delta pass bound ls n fewer t
  right_fewer n done fewer t g r = record { sized = r.sized; right = λ from to h k f. r.right from to h k (g from to h k f) }

  -- ---- row by row

  pub right_start : (n : ℕ) (t : PairTable) → Sized t → RightWhere delta pass bound ls n (Before 0 0) t
  right_start n t s = record { sized = s; right = λ from to h k d. none_before from to d }
    where
      none_before : (from to : ℕ) → Before 0 0 from to → IsBest delta pass bound ls from to (entry bound t from to)
      none_before from to (inl h) = absurd (omega arith)
      none_before from to (inr h) = let k = h.1 in absurd (omega arith)

  pub right_turn : Short ls → (n row column : ℕ) (old new : PairTable) → n ≤ 16 → row < n → column < n → RightWhere delta pass bound ls n (Before row column) old
      → Stored delta pass bound ls row column old new → RightWhere delta pass bound ls n (Before row (column + 1)) new
  right_turn short n row column old new few hr hc r s =
      right_fewer n (λ from to. Before row column from to ⊎ ((from ≡ row) × (to ≡ column))) (Before row (column + 1)) new (λ from to h k b. go from to b)
      (right_stored short n row column (Before row column) old new few hr hc r s)
    where
      go : (from to : ℕ) → Before row (column + 1) from to → Before row column from to ⊎ ((from ≡ row) × (to ≡ column))
      go from to (inl h) = inl (inl h)
      go from to (inr p) = last (ℕ_discrete to column)
        where
          last : Dec (to ≡ column) → Before row column from to ⊎ ((from ≡ row) × (to ≡ column))
          last (yes e) = inr (p.0, e)
          last (no e) = let l = p.1 in inl (inr (p.0, omega arith))

  pub right_row : (n row column : ℕ) (t : PairTable) → n ≤ column → RightWhere delta pass bound ls n (Before row column) t
      → RightWhere delta pass bound ls n (Before (row + 1) 0) t
  right_row n row column t all r = right_fewer n (Before row column) (Before (row + 1) 0) t (λ from to h k b. go from to k b) r
    where
      go : (from to : ℕ) → to < n → Before (row + 1) 0 from to → Before row column from to
      go from to k (inl h) = last (ℕ_discrete from row)
        where
          last : Dec (from ≡ row) → Before row column from to
          last (yes e) = inr (e, omega arith)
          last (no e) = inl (omega arith)
      go from to k (inr p) = let l = p.1 in absurd (omega arith)

  pub right_end : (n row : ℕ) (t : PairTable) → n ≤ row → RightWhere delta pass bound ls n (Before row 0) t → Right delta pass bound ls n t
  right_end n row t h r = right_fewer n (Before row 0) (λ from to. Unit {0}) t (λ from to k l u. inl (omega arith)) r

  -- ---- after a move: with every other list, out of both of the move's lists and into both

  pub renew_turn : Short ls → (n a b other : ℕ) (t t₁ t₂ t₃ t₄ : PairTable) → n ≤ 16 → a < n → b < n → other < n
      → RightWhere delta pass bound ls n (Renewed a b other) t
      → Stored delta pass bound ls a other t t₁ → Stored delta pass bound ls other a t₁ t₂
      → Stored delta pass bound ls b other t₂ t₃ → Stored delta pass bound ls other b t₃ t₄
      → RightWhere delta pass bound ls n (Renewed a b (other + 1)) t₄
  renew_turn short n a b other t t₁ t₂ t₃ t₄ few ha hb ho r s₁ s₂ s₃ s₄ =
      right_fewer n (Again a b other) (Renewed a b (other + 1)) t₄ (λ from to h k d. go from to d)
      (right_stored short n other b _ t₃ t₄ few ho hb
      (right_stored short n b other _ t₂ t₃ few hb ho
      (right_stored short n other a _ t₁ t₂ few ho ha
      (right_stored short n a other (Renewed a b other) t t₁ few ha ho r s₁) s₂) s₃) s₄)
    where
      before_it : (from to : ℕ) → Renewed a b other from to → Again a b other from to
      before_it from to d = inl (inl (inl (inl d)))

      go : (from to : ℕ) → Renewed a b (other + 1) from to → Again a b other from to
      go from to (inl u) = before_it from to (inl u)
      go from to (inr (inl p)) = out (ℕ_discrete to other) p.0
        where
          out : Dec (to ≡ other) → (from ≡ a) ⊎ (from ≡ b) → Again a b other from to
          out (yes e) (inl f) = inl (inl (inl (inr (f, e))))
          out (yes e) (inr f) = inl (inr (f, e))
          out (no e) f = let l = p.1 in before_it from to (inr (inl (f, omega arith)))
      go from to (inr (inr p)) = into (ℕ_discrete from other) p.0
        where
          into : Dec (from ≡ other) → (to ≡ a) ⊎ (to ≡ b) → Again a b other from to
          into (yes e) (inl f) = inl (inl (inr (e, f)))
          into (yes e) (inr f) = inr (e, f)
          into (no e) f = let l = p.1 in before_it from to (inr (inr (f, omega arith)))

  pub renew_both : Short ls → (n a b other : ℕ) (t t₁ t₂ : PairTable) → n ≤ 16 → a < n → b < n → other < n
      → RightWhere delta pass bound ls n (Renewed a b other) t → StoredBoth delta pass bound ls a other t t₁ → StoredBoth delta pass bound ls b other t₁ t₂
      → RightWhere delta pass bound ls n (Renewed a b (other + 1)) t₂
  renew_both short n a b other t t₁ t₂ few ha hb ho r s₁ s₂ =
      renew_turn short n a b other t s₁.middle t₁ s₂.middle t₂ few ha hb ho r s₁.out_of s₁.into s₂.out_of s₂.into

  pub renew_end : (n a b other : ℕ) (t : PairTable) → n ≤ other → RightWhere delta pass bound ls n (Renewed a b other) t → Right delta pass bound ls n t
  renew_end n a b other t h r = right_fewer n (Renewed a b other) (λ from to. Unit {0}) t
      (λ from to k l u. go from to k l (ℕ_discrete from a) (ℕ_discrete from b) (ℕ_discrete to a) (ℕ_discrete to b)) r
    where
      go : (from to : ℕ) → from < n → to < n → Dec (from ≡ a) → Dec (from ≡ b) → Dec (to ≡ a) → Dec (to ≡ b) → Renewed a b other from to
      go from to k l (yes e) x y z = inr (inl (inl e, omega arith))
      go from to k l (no d) (yes e) y z = inr (inl (inr e, omega arith))
      go from to k l (no d) (no c) (yes e) z = inr (inr (inl e, omega arith))
      go from to k l (no d) (no c) (no x) (yes e) = inr (inr (inr e, omega arith))
      go from to k l (no d) (no c) (no x) (no y) = inl (d, c, x, y)

-- ---- after a move: the pairs without its lists

module _ (delta delta' : Relocation → Float) (pass pass' : Relocation → Bool) (bound : Float) (ls ls' : List (List ℕ)) (a b : ℕ)
    (agree : Agree delta delta' pass pass' ls ls' a b) where
  -- they have the same moves
  same_between : (from to : ℕ) → Untouched a b from to → between ls' from to ≡ between ls from to
  unfolding between
  same_between from to u = rw (agree.same_list from u.0 u.1, agree.same_list to u.2 u.3)

  module _ (from to : ℕ) (u : Untouched a b from to) where
    -- with the same deltas and tests
    same_figures : (m : Relocation) → m ∈ between ls from to → (delta' m ≡ delta m) × (pass' m ≡ pass m)
    same_figures m i =
        let o = between_is ls from to m i in
        let w : Untouched a b m.from m.to = rw (o.is_from, o.is_to) u in
        (agree.same_delta m w, agree.same_test m w)

    same_may : (m : Relocation) → m ∈ between ls from to → may delta' pass' bound m ≡ may delta pass bound m
    same_may m i = let e = same_figures m i in rw (e.0, e.1)

    -- so the same best
    best_still : (o : Option Relocation) → Best delta pass bound (λ m. m ∈ between ls from to) o → Best delta' pass' bound (λ m. m ∈ between ls from to) o
    unfolding better
    best_still none h = λ m i. same_may m i ∙ h m i
    best_still (some c) h = (
      h.0,
      same_may c h.0 ∙ h.1,
      λ m i e. rw ((same_figures m i).0, (same_figures c h.0).0) (h.2 m i (sym (same_may m i) ∙ e)),
    )

    pub same_best : pair_best delta' pass' bound ls' from to ≡ pair_best delta pass bound ls from to
    unfolding pair_best
    same_best =
        rw (same_between from to u)
        (best-one delta' pass' bound (λ m. m ∈ between ls from to) (onward delta' pass' bound none (between ls from to))
        (onward delta pass bound none (between ls from to)) (best_sorted delta' pass' bound (between ls from to) (between_sorted ls from to))
        (best_still (onward delta pass bound none (between ls from to)) (best_sorted delta pass bound (between ls from to) (between_sorted ls from to))))

    pub kept_best : (c : Choice) → IsBest delta pass bound ls from to c → IsBest delta' pass' bound ls' from to c
    unfolding figure
    kept_best c k = record { best = k.best ∙ sym same_best; figured = k.figured ∙ go (move_of c) (pair_standing delta pass bound ls from to c k).best }
      where
        go : (o : Option Relocation) → Best delta pass bound (λ m. m ∈ between ls from to) o → figure delta pass bound o ≡ figure delta' pass' bound o
        go none h = refl
        go (some m) h = sym (same_figures m h.0).0

  -- their entries are right still
  pub right_kept : (n : ℕ) (t : PairTable) → Right delta pass bound ls n t → RightWhere delta' pass' bound ls' n (Renewed a b 0) t
  right_kept n t r = record { sized = r.sized; right = λ from to h k d. kept_best from to (only from to d) (entry bound t from to) (r.right from to h k tt) }
    where
      only : (from to : ℕ) → Renewed a b 0 from to → Untouched a b from to
      only from to (inl u) = u
      only from to (inr (inl p)) = let l = p.1 in absurd (omega arith)
      only from to (inr (inr p)) = let l = p.1 in absurd (omega arith)
