-- Two stretches exchanged by exchanging tails twice: first those behind the stretches, then those from their starts on. Assumes nothing.
use mathlib.Core.Path.{◌≡◌, sym, ap, ◌∙◌}
use mathlib.Core.Logic.{◌≢◌}
use mathlib.Core.List.{List, [], append_assoc}
use Prim.Native.Nat.{ℕ, ◌+◌, ◌-◌, ◌≤◌, ◌<◌}
use native.Mathlib.Omega.{arith}
use lib.ListN.{length, get_or, set, take, drop, length-set, length-append, length-drop}
use lib.Seq.{slice, take-append-le, drop-append-le, take-take, length-take-le, get_or-set_same, get_or-set_other, set-set, set_comm}
use Rattle.lists.specs.Table.{lists}
use Rattle.list_changes.specs.Edits.{at, joined, tails_exchanged, Cuts, Edited}
use Rattle.lists.proofs.Tables.{at_lists, length-lists, length_list, length_at}
use Rattle.list_changes.proofs.Edited.{edited_on}
use Rattle.cross_moves.specs.CrossDepot.{replaced, exchanged_by}
use Rattle.cross_changes.specs.Tables.{Makes, turned}
use Rattle.cross_moves.specs.declared.pair.Move.{Move}

-- a head, and behind it what the first exchange put there
joined_twice : (X Y : List ℕ) (from1 to1 from2 to2 : ℕ) → from1 ≤ to1 → to1 ≤ length X → from2 ≤ to2 → to2 ≤ length Y
    → joined (joined X to1 Y to2) from1 (joined Y to2 X to1) from2 ≡ replaced X from1 to1 (slice from2 to2 Y)
joined_twice X Y from1 to1 from2 to2 h1 w1 h2 w2 =
    let long1 : from1 ≤ length (take to1 X) = rw (length-take-le to1 X w1) h1 in
    let long2 : from2 ≤ length (take to2 Y) = rw (length-take-le to2 Y w2) h2 in
    rw (take-append-le from1 (take to1 X) (drop to2 Y) long1, take-take from1 to1 X h1, drop-append-le from2 (take to2 Y) (drop to1 X) long2)
    (sym (append_assoc (take from1 X) (slice from2 to2 Y) (drop to1 X)))

length-joined : (X Y : List ℕ) (cut1 cut2 : ℕ) → cut1 ≤ length X → length (joined X cut1 Y cut2) ≡ cut1 + (length Y - cut2)
length-joined X Y cut1 cut2 w = simp (length-append, length-drop) (omega (arith, length-take-le cut1 X w))

-- two lists set, read back, and set again
module _ (ls : List (List ℕ)) (a b : ℕ) (A B : List ℕ) (apart : a ≢ b) (a-there : a < length ls) (b_there : b < length ls) where
  at_first : at (set (set ls a A) b B) a ≡ A
  at_first = get_or-set_other (set ls a A) b a B [] apart ∙ get_or-set_same ls a A [] a-there

  at_second : at (set (set ls a A) b B) b ≡ B
  at_second = get_or-set_same (set ls a A) b B [] (rw length-set b_there)

  set_again : (C D : List ℕ) → set (set (set (set ls a A) b B) a C) b D ≡ set (set ls a C) b D
  set_again C D =
      ap (λ z. set z b D) (set_comm (set ls a A) b a B C (λ e. apart (sym e)) ∙ ap (λ z. set z b B) (set-set ls a A C)) ∙ set-set (set ls a C) b B D

module _ (visits lengths : List ℕ) (m : Move) (makes : Makes visits lengths m) where
  abbrev X : List ℕ
  X = at (lists visits lengths) m.one

  abbrev Y : List ℕ
  Y = at (lists visits lengths) m.other

  within_first : m.to1 ≤ length X
  within_first = rw (length_at visits lengths makes.laid.add_up m.one) makes.within1

  within_second : m.to2 ≤ length Y
  within_second = rw (length_at visits lengths makes.laid.add_up m.other) makes.within2

  first_there : m.one < length (lists visits lengths)
  first_there = rw length-lists makes.one_there

  second-there : m.other < length (lists visits lengths)
  second-there = rw length-lists makes.other_there

  -- the first exchange
  pub cuts_first : m.one < m.other → Cuts visits lengths m.one m.other m.to1 m.to2
  cuts_first h =
      record { laid = makes.laid; before = h; there = makes.other_there; within1 = makes.within1; within2 = makes.within2 }

  module _ (visits' lengths' : List ℕ)
      (edited : Edited visits lengths visits' lengths' (tails_exchanged (lists visits lengths) m.one m.other m.to1 m.to2)) where
    read_first : at (lists visits' lengths') m.one ≡ joined X m.to1 Y m.to2
    unfolding tails_exchanged
    read_first = ap (λ z. at z m.one) edited.holds ∙ at_first (lists visits lengths) m.one m.other _ _ makes.apart first_there second-there

    read_second : at (lists visits' lengths') m.other ≡ joined Y m.to2 X m.to1
    unfolding tails_exchanged
    read_second = ap (λ z. at z m.other) edited.holds ∙ at_second (lists visits lengths) m.one m.other _ _ makes.apart first_there second-there

    long_now : (r : ℕ) → length (at (lists visits' lengths') r) ≡ get_or lengths' r 0
    long_now r = ap length (at_lists visits' lengths' r) ∙ length_list visits' lengths' edited.laid.add_up r

    -- the second exchange
    pub cuts-second : m.one < m.other → Cuts visits' lengths' m.one m.other m.from1 m.from2
    cuts-second h = record {
      laid = edited.laid;
      before = h;
      there = omega (arith, makes.other_there, edited.number);
      within1 = omega (arith, long_now m.one, ap length read_first, length-joined X Y m.to1 m.to2 within_first, makes.ordered1);
      within2 = omega (arith, long_now m.other, ap length read_second, length-joined Y X m.to2 m.to1 within_second, makes.ordered2);
    }

    twice : tails_exchanged (lists visits' lengths') m.one m.other m.from1 m.from2 ≡ exchanged_by (lists visits lengths) m
    unfolding tails_exchanged exchanged_by
    twice =
        rw (
          read_first,
          read_second,
          joined_twice X Y m.from1 m.to1 m.from2 m.to2 makes.ordered1 within_first makes.ordered2 within_second,
          joined_twice Y X m.from2 m.to2 m.from1 m.to1 makes.ordered2 within_second makes.ordered1 within_first,
          edited.holds,
        )
        (set_again (lists visits lengths) m.one m.other _ _ makes.apart first_there second-there _ _)

    pub exchanged_both : (visits'' lengths'' : List ℕ)
        → Edited visits' lengths' visits'' lengths'' (tails_exchanged (lists visits' lengths') m.one m.other m.from1 m.from2)
        → Edited visits lengths visits'' lengths'' (exchanged_by (lists visits lengths) m)
    exchanged_both visits'' lengths'' again =
        rw twice at (edited_on visits lengths visits' lengths' visits'' lengths'' _ _ edited again)

  -- ---- seen from the other list

  pub makes_turned : Makes visits lengths (turned m)
  makes_turned = record {
    laid = makes.laid;
    one_there = makes.other_there;
    other_there = makes.one_there;
    apart = λ e. makes.apart (sym e);
    ordered1 = makes.ordered2;
    within1 = makes.within2;
    ordered2 = makes.ordered1;
    within2 = makes.within1;
  }

  pub later_turned : m.other ≤ m.one → m.other < m.one
  later_turned h = omega (arith, makes.apart)

  pub turned_same : exchanged_by (lists visits lengths) (turned m) ≡ exchanged_by (lists visits lengths) m
  unfolding exchanged_by
  turned_same = set_comm (lists visits lengths) m.other m.one _ _ (λ e. makes.apart (sym e))
