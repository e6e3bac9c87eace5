-- What the table's choice is to a relocate engine: the move that its definition takes, one that lies in the lists, so that it can be made; and what a run
-- comes to by such choices. Assumes nothing.
use mathlib.Core.Path.{◌≡◌, refl, sym, ap, ◌∙◌, subst}
use mathlib.Core.Logic.{◌≢◌}
use mathlib.Core.Bool.{Bool, true, false}
use mathlib.Core.Option.{Option, none, some}
use mathlib.Core.List.{List, [], ◌∷◌}
use Prim.Native.Nat.{ℕ}
use native.Mathlib.Omega.{arith}
use lib.ListN.{length, set}
use lib.Seq.{get_or-set_other}
use lib.Ieee.{Float, lt}
use Rattle.lists.specs.Table.{Laid, lists}
use Rattle.list_changes.specs.Edits.{Edited, Relocates, relocated}
use Rattle.lists.proofs.Tables.{at_lists, length-lists, length_list, list_within}
use Rattle.descent.specs.Order.{◌∈◌}
use Rattle.descent.specs.Permitted.{Checks}
use Rattle.descent.specs.Search.{begins_again, Search, Judge, ok, taken, first_move, next}
use Rattle.descent.specs.Across.{at, Relocation, relocations, relocate_search}
use Rattle.descent.proofs.Loops.{place_passed, place_moved, next_sweep}
use Rattle.descent.specs.Scan.{chosen, onward, figure}
use Rattle.pairs.specs.Pairs.{across, Moves, Short, is_found, as_move, move_of, nothing, least_entry, pair_best}
use Rattle.pairs.specs.Pairs.{IsBest, RightWhere, Right, Renewed, Agree}
use Rattle.pairs.specs.declared.Choice.{Choice}
use Rattle.pairs.specs.declared.PairTable.{PairTable}
use Rattle.descent.proofs.Scanning.{onward_end, onward-none}
use Rattle.pairs.proofs.Best.{Best, best_sorted}
use Rattle.pairs.proofs.Listed.{between_same, between-apart, relocations_sorted, relocation_there}
use Rattle.pairs.proofs.Least.{found_move, no_move, least_entry_taken}
use Rattle.pairs.proofs.Kept.{right_kept}

-- ---- the lists

pub short-lists : (visits lengths : List ℕ) → Laid visits lengths → Short (lists visits lengths)
short-lists visits lengths laid = record {
  short = λ r. rw (at_lists visits lengths r, length_list visits lengths laid.add_up r) (omega (arith, list_within visits lengths laid r, laid.size));
}

-- the lists but two that are set stay
pub set_other : (ls : List (List ℕ)) (a b : ℕ) (X Y : List ℕ) (r : ℕ) → r ≢ a → r ≢ b → at (set (set ls a X) b Y) r ≡ at ls r
set_other ls a b X Y r h k = get_or-set_other (set ls a X) b r Y [] k ∙ get_or-set_other ls a r X [] h

pub relocated-other : (ls : List (List ℕ)) (from position to place r : ℕ) → r ≢ from → r ≢ to → at (relocated ls from position to place) r ≡ at ls r
unfolding relocated
relocated-other ls from position to place r h k = set_other ls from to _ _ r h k

-- in the tables that an edit leaves
pub edited_other : (visits lengths visits' lengths' : List ℕ) (from position to place : ℕ)
    → Edited visits lengths visits' lengths' (relocated (lists visits lengths) from position to place)
    → (r : ℕ) → r ≢ from → r ≢ to → at (lists visits' lengths') r ≡ at (lists visits lengths) r
edited_other visits lengths visits' lengths' from position to place e r h k =
    ap (λ (ls : List (List ℕ)). at ls r) e.holds ∙ relocated-other (lists visits lengths) from position to place r h k

-- where delta and test see of the lists but the move's own two, those between other lists are as they were
pub agree_local : (delta : List ℕ → List ℕ → Relocation → Float) (pass : List ℕ → List ℕ → Relocation → Bool) (ls ls' : List (List ℕ)) (a b : ℕ)
    → ((r : ℕ) → r ≢ a → r ≢ b → at ls' r ≡ at ls r)
    → Agree (λ m. delta (at ls m.from) (at ls m.to) m) (λ m. delta (at ls' m.from) (at ls' m.to) m)
    (λ m. pass (at ls m.from) (at ls m.to) m) (λ m. pass (at ls' m.from) (at ls' m.to) m) ls ls' a b
agree_local delta pass ls ls' a b same = record {
  same_list = same;
  same_delta = λ m u. rw (same m.from u.0 u.1, same m.to u.2 u.3);
  same_test = λ m u. rw (same m.from u.0 u.1, same m.to u.2 u.3);
}

-- a move of the lists can be made in their tables
pub relocates : (visits lengths : List ℕ) → Laid visits lengths → (from position to place : ℕ) → Moves (lists visits lengths) from position to place
    → Relocates visits lengths from position to place
relocates visits lengths laid from position to place m = record {
  laid = laid;
  gives = rw (← length-lists visits lengths) m.gives;
  takes = rw (← length-lists visits lengths) m.takes;
  apart = m.apart;
  visit_there = rw (at_lists visits lengths from, length_list visits lengths laid.add_up from) at m.visit_there;
  place_there = rw (at_lists visits lengths to, length_list visits lengths laid.add_up to) at m.place_there;
}

module _ (delta : Relocation → Float) (pass : Relocation → Bool) (bound : Float) (ls : List (List ℕ)) where
  -- ---- the best of a pair, as its search finds it

  -- of one list there is none
  pub best-same_list : (from to : ℕ) → from ≡ to → IsBest delta pass bound ls from to (nothing bound)
  unfolding move_of pair_best figure
  best-same_list from to e = record {
    best = sym (ap (onward delta pass bound none) (between_same ls from to e) ∙ onward_end delta pass bound none);
    figured = refl;
  }

  -- of two lists it is what the scan of the moves across comes to
  pub best-across : (from to : ℕ) (c : Choice) → from ≢ to → move_of c ≡ onward delta pass bound none (across ls from to)
      → c.delta ≡ figure delta pass bound (move_of c) → IsBest delta pass bound ls from to c
  unfolding pair_best
  best-across from to c h e f = record { best = e ∙ ap (onward delta pass bound none) (sym (between-apart ls from to h)); figured = f }

  -- where no visit can leave there is none
  pub best_empty : (from to : ℕ) → from ≢ to → length (at ls from) ≡ 0 → IsBest delta pass bound ls from to (nothing bound)
  unfolding move_of figure
  best_empty from to h e = best-across from to (nothing bound) h (rw e (sym (onward_end delta pass bound none))) refl

  -- where no move across passes there is none
  pub best_refused : (from to : ℕ) → from ≢ to → ((m : Relocation) → m ∈ across ls from to → pass m ≡ false)
      → IsBest delta pass bound ls from to (nothing bound)
  unfolding move_of figure
  best_refused from to h fails =
      best-across from to (nothing bound) h (sym (onward-none delta pass bound none (across ls from to) fails)) refl

  -- ---- the choice that the table gives lies in the lists

  pub choice-there : (c : Choice) → move_of c ≡ onward delta pass bound none (relocations ls) → is_found c ≡ true
      → Moves ls c.from c.position c.to c.place
  choice-there c e f =
      let b : Best delta pass bound (λ m. m ∈ relocations ls) (some (as_move c)) =
      subst (λ (o : Option Relocation). Best delta pass bound (λ m. m ∈ relocations ls) o) (sym e ∙ found_move c f)
      (best_sorted delta pass bound (relocations ls) (relocations_sorted ls)) in
      relocation_there ls (as_move c) b.0

-- after it the entries of the pairs without its lists are right still
pub right_moved : (delta delta' : Relocation → Float) (pass pass' : Relocation → Bool) (bound : Float) (visits lengths visits' lengths' : List ℕ) (t : PairTable)
    (from position to place : ℕ) → Agree delta delta' pass pass' (lists visits lengths) (lists visits' lengths') from to
    → Edited visits lengths visits' lengths' (relocated (lists visits lengths) from position to place)
    → Right delta pass bound (lists visits lengths) (length lengths) t
    → RightWhere delta' pass' bound (lists visits' lengths') (length lengths') (Renewed from to 0) t
right_moved delta delta' pass pass' bound visits lengths visits' lengths' t from position to place agree e r =
    rw e.number (right_kept delta delta' pass pass' bound (lists visits lengths) (lists visits' lengths') from to agree (length lengths) t r)

-- ---- an engine's search

-- a search for relocations, judged by a delta below the bound, the lesser the better: all hold by `refl` of both relocate engines
pub record Relocating (search : Search (List (List ℕ)) Unit Relocation) (judge : Judge (List (List ℕ)) Relocation Float) (bound : Float) : Type 0 where
  pub places_are : (ls : List (List ℕ)) → search.places ls ≡ tt ∷ []
  pub candidates_are : (ls : List (List ℕ)) → search.candidates ls tt ≡ relocations ls
  pub made_is : (ls : List (List ℕ)) (m : Relocation) → search.made ls m ≡ relocated ls m.from m.position m.to m.place
  pub again : search.after ≡ begins_again
  pub counts_is : judge.counts ≡ (λ d. lt d bound)
  pub less_is : judge.less ≡ lt

pub relocate_relocating : (giver-tested : Bool) (checks : Checks) (delta : List (List ℕ) → Relocation → Float) (bound : Float)
    → Relocating (relocate_search giver-tested checks) (record { delta = delta; counts = λ d. lt d bound; less = lt }) bound
unfolding relocated
relocate_relocating giver-tested checks delta bound = record {
  places_are = λ ls. refl;
  candidates_are = λ ls. refl;
  made_is = λ ls m. refl;
  again = refl;
  counts_is = refl;
  less_is = refl;
}

module _ (search : Search (List (List ℕ)) Unit Relocation) (judge : Judge (List (List ℕ)) Relocation Float) (bound : Float)
    (R : Relocating search judge bound) (ls : List (List ℕ)) where
  -- the scan of all relocations is the definition's choice
  pub scan-taken : onward (judge.delta ls) (search.passes ls) bound none (relocations ls) ≡ taken search judge ls tt
  unfolding onward chosen taken ok
  scan-taken = rw (R.candidates_are ls, R.counts_is, R.less_is)

  -- and so is the least entry of a right table
  pub table_taken : (n : ℕ) (t : PairTable) → n ≡ length ls → Right (judge.delta ls) (search.passes ls) bound ls n t
      → move_of (least_entry n bound t) ≡ taken search judge ls tt
  table_taken n t e r =
      let r' : Right (judge.delta ls) (search.passes ls) bound ls (length ls) t = rw (← e) r in
      rw e (least_entry_taken (judge.delta ls) (search.passes ls) bound ls t r' ∙ scan-taken)

  -- it lies in the lists
  pub taken-there : (c : Choice) → move_of c ≡ taken search judge ls tt → is_found c ≡ true → Moves ls c.from c.position c.to c.place
  taken-there c e f = choice-there (judge.delta ls) (search.passes ls) bound ls c (e ∙ sym scan-taken) f

  -- ---- and so it is the next move, or there is none

  module _ (c : Choice) (found : move_of c ≡ taken search judge ls tt) where
    nowhere : first_move search judge ls [] ≡ none
    unfolding first_move
    nowhere = refl

    fresh : next search judge (record { now = ls; ahead = [] }) ≡ first_move search judge ls (tt ∷ [])
    fresh = next_sweep search judge (record { now = ls; ahead = [] }) nowhere ∙ ap (first_move search judge ls) (R.places_are ls)

    pub no_next : is_found c ≡ false → next search judge (record { now = ls; ahead = [] }) ≡ none
    no_next e = fresh ∙ place_passed search judge ls tt [] (sym found ∙ no_move c e) ∙ nowhere

    pub a_next : is_found c ≡ true
        → next search judge (record { now = ls; ahead = [] }) ≡ some (record { now = relocated ls c.from c.position c.to c.place; ahead = [] })
    a_next e =
        fresh ∙ place_moved search judge ls tt [] (as_move c) (sym found ∙ found_move c e)
        ∙ rw (R.again, R.made_is ls (as_move c))
