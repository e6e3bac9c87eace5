-- What every permitted move keeps: every sum over the visits of all lists, and so how often each office stands there; the number of lists; and
-- that a list within a capacity stays within it. Assumes nothing.
use mathlib.Core.Path.{◌≡◌, refl, sym, ap, ◌∙◌}
use mathlib.Core.Logic.{◌≢◌}
use mathlib.Core.Bool.{Bool, true, false}
use mathlib.Core.List.{List, [], ◌∷◌, ◌++◌}
use Prim.Native.Nat.{ℕ, zero, suc, ◌+◌, ◌≤◌, ◌<◌}
use native.Mathlib.Omega.{arith}
use native.Mathlib.Decide.{ℕ_discrete}
use borrow.Author.Tests.{leb-true}
use lib.Dec.{T, leb}
use lib.ListN.{length, get_or, set, length-set}
use lib.Seq.{get_or-set_same, get_or-set_other}
use Rattle.edits.specs.Total.{total, sums, total-set}
use Rattle.descent.specs.Order.{◌∈◌, here, there}
use Rattle.descent.specs.Permitted.{Measure, Checks, load, room, fits, Arrangement, turn, in_order, arranged, Reversed, reversed, Reconnected}
use Rattle.descent.specs.Permitted.{reconnected, PieceMoved, earlier, later, Changed, tails_exchanged, relocated, Engine, two_opt, three_opt, or_opt}
use Rattle.descent.specs.Permitted.{tail_exchange, relocate, State, lists, Permitted}
use Rattle.descent.proofs.Members.{T_true, and_parts}
use Rattle.descent.proofs.Sums.{tails_keep, moved_keeps}

-- ---- a list that fits is within every capacity

room-load : (ms : List Measure) (m : Measure) (X : List ℕ) → room ms X ≡ true → m ∈ ms → load m X ≤ m.capacity
room-load (n ∷ ms) m X e here = leb-true (load m X) m.capacity (and_parts (leb (load m X) m.capacity) (room ms X) e).0
room-load (n ∷ ms) m X e (there h) = room-load ms m X (and_parts (leb (load n X) n.capacity) (room ms X) e).1 h
room-load [] m X e x'' = elim x'' [ ]

pub fits-load : (checks : Checks) (m : Measure) (X : List ℕ) → T (fits checks X) → m ∈ checks.measures → load m X ≤ m.capacity
fits-load checks m X t h =
    room-load checks.measures m X (and_parts (room checks.measures X) (checks.passes X) (T_true (fits checks X) t)).0 h

-- ---- sums within a list

pub total-turn : (f : ℕ → ℕ) (b : Bool) (P : List ℕ) → total f (turn b P) ≡ total f P
total-turn f false P = refl
total-turn f true P = simp sums

pub total-in_order : (f : ℕ → ℕ) (s : Bool) (B C : List ℕ) → total f (in_order s B C) ≡ total f B + total f C
total-in_order f false B C = simp sums
total-in_order f true B C = simp sums (omega arith)

pub total-arranged : (f : ℕ → ℕ) (a : Arrangement) (B C : List ℕ) → total f (arranged a B C) ≡ total f B + total f C
total-arranged f a B C = simp (total-in_order, total-turn)

pub reversed_keeps : (f : ℕ → ℕ) (passes : List ℕ → Bool) (xs ys : List ℕ) → Reversed passes xs ys → total f ys ≡ total f xs
reversed_keeps f passes xs ys (reversed A B C h p) = simp sums

pub reconnected_keeps : (f : ℕ → ℕ) (passes : List ℕ → Bool) (xs ys : List ℕ) → Reconnected passes xs ys → total f ys ≡ total f xs
reconnected_keeps f passes xs ys (reconnected A B C D a s h₁ h₂ h₃ h₄ p) = simp (sums, total-arranged) (omega arith)

pub moved_piece_keeps : (f : ℕ → ℕ) (last : ℕ → ℕ → ℕ) (passes : List ℕ → Bool) (xs ys : List ℕ) → PieceMoved last passes xs ys → total f ys ≡ total f xs
moved_piece_keeps f last passes xs ys (earlier A B P C h₁ h₂ h₃ p) = simp sums (omega arith)
moved_piece_keeps f last passes xs ys (later A P B C h₁ h₂ h₃ h₄ p) = simp sums (omega arith)

-- two lists changed: of any sum over the lists, what the two gave goes, and what they give comes
pub changed_total : (f : List ℕ → ℕ) (X Y X' Y' : List ℕ) (ls ms : List (List ℕ)) → Changed X Y X' Y' ls ms
    → total f ms + (f X + f Y) ≡ total f ls + (f X' + f Y')
changed_total f X Y X' Y' ls ms m =
    let other : get_or (set ls m.i X') m.j [] ≡ Y = get_or-set_other ls m.i m.j X' [] (λ e. m.apart (sym e)) ∙ m.at_j in
    let there : m.j < length (set ls m.i X') = rw length-set m.j_there in
    let one = rw m.at_i at (total-set f ls m.i X' [] m.i_there) in
    let two = rw other at (total-set f (set ls m.i X') m.j Y' [] there) in
    rw m.becomes (omega arith)

-- and what relates each of the two to what it was, and every list to itself, relates the lists under each number
pub changed_each : (Q : List ℕ → List ℕ → Type 0) (X Y X' Y' : List ℕ) (ls ms : List (List ℕ)) → Changed X Y X' Y' ls ms
    → ((Z : List ℕ) → Q Z Z) → Q X X' → Q Y Y' → (k : ℕ) → Q (get_or ls k []) (get_or ms k [])
changed_each Q X Y X' Y' ls ms m same qi qj k = rw m.becomes (at_j (ℕ_discrete k m.j))
  where
    at_i : k ≢ m.j → Dec (k ≡ m.i) → Q (get_or ls k []) (get_or (set ls m.i X') k [])
    at_i n (yes e) = rw (e, get_or-set_same ls m.i X' [] m.i_there, m.at_i) qi
    at_i n (no o) = rw (get_or-set_other ls m.i k X' [] o) (same (get_or ls k []))

    at_j : Dec (k ≡ m.j) → Q (get_or ls k []) (get_or (set (set ls m.i X') m.j Y') k [])
    at_j (yes e) = rw (e, get_or-set_same (set ls m.i X') m.j Y' [] (rw length-set m.j_there), m.at_j) qj
    at_j (no n) = rw (get_or-set_other (set ls m.i X') m.j k Y' [] n) (at_i n (ℕ_discrete k m.i))

-- ---- what a move keeps of all the lists

pub record Kept (checks : Checks) (ls ms : List (List ℕ)) : Type 0 where
  pub sums : (f : ℕ → ℕ) → total (total f) ms ≡ total (total f) ls
  pub number : length ms ≡ length ls
  pub loads : (m : Measure) → m ∈ checks.measures → (r : ℕ) → load m (get_or ls r []) ≤ m.capacity → load m (get_or ms r []) ≤ m.capacity

pub kept_same : (checks : Checks) (ls : List (List ℕ)) → Kept checks ls ls
kept_same checks ls = record { sums = λ f. refl; number = refl; loads = λ m i k h. h }

pub kept_on : (checks : Checks) (ls ms ns : List (List ℕ)) → Kept checks ls ms → Kept checks ms ns → Kept checks ls ns
kept_on checks ls ms ns p q = record {
  sums = λ f. q.sums f ∙ p.sums f;
  number = q.number ∙ p.number;
  loads = λ m i k h. q.loads m i k (p.loads m i k h);
}

alone_kept : (checks : Checks) (xs ys : List ℕ) → ((f : ℕ → ℕ) → total f ys ≡ total f xs) → Kept checks (xs ∷ []) (ys ∷ [])
alone_kept checks xs ys keeps = record { sums = λ f. ap (λ (n : ℕ). n + 0) (keeps f); number = refl; loads = loads }
  where
    loads : (m : Measure) → m ∈ checks.measures → (k : ℕ) → load m (get_or (xs ∷ []) k []) ≤ m.capacity → load m (get_or (ys ∷ []) k []) ≤ m.capacity
    loads m i zero h = rw (keeps m.demand) h
    loads m i (suc k) h = h

changed_kept : (checks : Checks) (X Y X' Y' : List ℕ) (ls ms : List (List ℕ)) → Changed X Y X' Y' ls ms
    → ((f : ℕ → ℕ) → total f X' + total f Y' ≡ total f X + total f Y)
    → ((m : Measure) → m ∈ checks.measures → load m X ≤ m.capacity → load m X' ≤ m.capacity)
    → ((m : Measure) → m ∈ checks.measures → load m Y ≤ m.capacity → load m Y' ≤ m.capacity) → Kept checks ls ms
changed_kept checks X Y X' Y' ls ms m keeps at_i at_j = record {
  sums = λ f. let all = changed_total (total f) X Y X' Y' ls ms m in omega (arith, keeps f);
  number = rw (m.becomes, length-set, length-set);
  loads = λ q i. changed_each (λ Z Z'. load q Z ≤ q.capacity → load q Z' ≤ q.capacity) X Y X' Y' ls ms m (λ Z h. h) (at_i q i) (at_j q i);
}

pub permitted_keeps : (e : Engine) (checks : Checks) (x y : State e) → Permitted e checks x y → Kept checks (lists e x) (lists e y)
permitted_keeps two_opt checks x y m = alone_kept checks x y (λ f. reversed_keeps f checks.passes x y m)
permitted_keeps three_opt checks x y m = alone_kept checks x y (λ f. reconnected_keeps f checks.passes x y m)
permitted_keeps (or_opt last) checks x y m = alone_kept checks x y (λ f. moved_piece_keeps f last checks.passes x y m)
permitted_keeps tail_exchange checks x y (tails_exchanged A B C D hA hC L p q) =
    changed_kept checks _ _ _ _ x y L (λ f. tails_keep f A B C D) (λ m i h. fits-load checks m (A ++ D) p i) (λ m i h. fits-load checks m (C ++ B) q i)
permitted_keeps (relocate tested) checks x y (relocated v A B C D L p q) =
    changed_kept checks _ _ _ _ x y L (λ f. moved_keeps f v A B C D)
    (λ m i h. simp sums (let k = simp sums at h in omega arith))
    (λ m i h. fits-load checks m (C ++ v ∷ D) p i)
