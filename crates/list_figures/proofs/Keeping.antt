-- The figures stay right: an entry that is put is that of its list, every other is as it was, and a move changes no list but the two. Assumes nothing.
use mathlib.Core.Path.{◌≡◌, refl, sym, ap, ◌∙◌}
use mathlib.Core.Logic.{◌≢◌}
use mathlib.Core.Bool.{Bool, true, false}
use mathlib.Core.List.{List, []}
use Prim.Native.Nat.{ℕ, ◌+◌, ◌<◌}
use native.Mathlib.Omega.{arith}
use borrow.Author.Tests.{eqb-true, eqb-false}
use lib.Dec.{eqb}
use lib.IntN.{ℤ}
use lib.ListN.{length, get_or, set, length-set}
use lib.Seq.{get_or-set_other, get_or-set_same}
use Rattle.labels.specs.Columns.{Columns}
use Rattle.labels.specs.Lent.{lent}
use Rattle.lists.specs.Table.{lists, list_of}
use Rattle.lists.proofs.Tables.{at_lists}
use Rattle.list_changes.specs.Edits.{Edited, Cuts, at, joined, tails_exchanged}
use Rattle.tail_prices.specs.Changes.{figure_of}
use Rattle.tail_candidates.specs.declared.Terms.{Terms}
use Rattle.tail_candidates.specs.declared.two_lists.TwoLists.{TwoLists}
use Rattle.tail_prices.specs.declared.Figure.{Figure}
use Rattle.tail_prices.specs.declared.Figures.{Figures}
use Rattle.soft_tail_candidates.specs.Candidate.{Figured}
use Rattle.list_figures.specs.Kept.{no_figure, KeptFigures, figured_again, figures_at}

-- one entry put: every number's, by whether it is the one put
put_at : (entries : List Figure) (r k : ℕ) (new right : Figure) → length entries ≡ 16 → r < 16
    → (k ≡ r → new ≡ right) → (k ≢ r → get_or entries k no_figure ≡ right) → get_or (set entries r new) k no_figure ≡ right
put_at entries r k new right long room here apart = go (eqb k r) refl
  where
    go : (b : Bool) → eqb k r ≡ b → get_or (set entries r new) k no_figure ≡ right
    go true e =
        let same = eqb-true k r e in
        ap (λ j. get_or (set entries r new) j no_figure) same ∙ get_or-set_same entries r new no_figure (omega arith) ∙ here same
    go false e = let other = eqb-false k r e in get_or-set_other entries r k new no_figure other ∙ apart other

module _ (c : Columns) (demand : List ℤ) (t : Terms) (ls : List (List ℕ)) where
  -- none is kept before the first is put
  pub kept_none : (entries : List Figure) → length entries ≡ 16 → KeptFigures c demand t ls 0 entries
  kept_none entries long = record { long = long; entry = λ k h. absurd (omega arith) }

  -- one list more
  pub kept_more : (r : ℕ) (entries entries' : List Figure) → KeptFigures c demand t ls r entries → r < 16
      → entries' ≡ set entries r (figure_of c demand t (at ls r)) → KeptFigures c demand t ls (r + 1) entries'
  kept_more r entries entries' w room e = rw e (record {
    long = simp length-set w.long;
    entry = λ k h.
        put_at entries r k _ (figure_of c demand t (at ls k)) w.long room (λ same. rw same) (λ apart. w.entry k (omega (arith, apart)));
  })

-- the lists of a pair, after their tails were exchanged, put among the entries
module _ (ls : List (List ℕ)) (one other cut1 cut2 : ℕ) where
  other_list : (k : ℕ) → k ≢ one → k ≢ other → at (tails_exchanged ls one other cut1 cut2) k ≡ at ls k
  unfolding tails_exchanged
  other_list k a b =
      get_or-set_other (set ls one (joined (at ls one) cut1 (at ls other) cut2)) other k (joined (at ls other) cut2 (at ls one) cut1) [] b
      ∙ get_or-set_other ls one k (joined (at ls one) cut1 (at ls other) cut2) [] a

  module _ (c : Columns) (demand : List ℤ) (t : Terms) (n : ℕ) (entries : List Figure) where
    abbrev made : List (List ℕ)
    made = tails_exchanged ls one other cut1 cut2

    kept_again : KeptFigures c demand t ls n entries → one < other → other < 16
        → KeptFigures c demand t made n (figured_again c demand t made one other entries)
    kept_again w before room = record {
      long = simp length-set w.long;
      entry = λ k h.
          put_at (set entries one (figure_of c demand t (at made one))) other k _ (figure_of c demand t (at made k)) (simp length-set w.long) room (λ same. rw same)
          (λ away. put_at entries one k _ (figure_of c demand t (at made k)) w.long (omega (arith, before)) (λ same. rw same)
          (λ apart. w.entry k h ∙ ap (figure_of c demand t) (sym (other_list k apart away))));
    }

-- so of the lists of the two tables of visits and lengths, before a move and after it
pub kept_moved : (c : Columns) (demand : List ℤ) (t : Terms) (visits lengths visits' lengths' : List ℕ) (one other cut1 cut2 : ℕ)
    (entries entries' : List Figure) → KeptFigures c demand t (lists visits lengths) (length lengths) entries
    → Cuts visits lengths one other cut1 cut2 → Edited visits lengths visits' lengths' (tails_exchanged (lists visits lengths) one other cut1 cut2)
    → entries' ≡ figured_again c demand t (lists visits' lengths') one other entries
    → KeptFigures c demand t (lists visits' lengths') (length lengths') entries'
kept_moved c demand t visits lengths visits' lengths' one other cut1 cut2 entries entries' w cuts edited again =
    rw (again, edited.holds, edited.number)
    (kept_again (lists visits lengths) one other cut1 cut2 c demand t (length lengths) entries w cuts.before (omega (arith, cuts.there, cuts.laid.few)))

-- what the entries say of two lists
pub kept_figured : (two : TwoLists) (visits lengths : List ℕ) (n : ℕ) (entries : List Figure) (one other : ℕ) (f : Figures)
    → two.one.now ≡ list_of visits lengths one → two.other.now ≡ list_of visits lengths other
    → KeptFigures (lent two.columns.now) two.demand.now two.terms (lists visits lengths) n entries → one < n → other < n
    → f ≡ figures_at entries one other → Figured two f
kept_figured two visits lengths n entries one other f e d w h k r =
    let figure = figure_of (lent two.columns.now) two.demand.now two.terms in
    let first : f.one ≡ figure two.one.now = ap (λ g. g.one) r ∙ w.entry one h ∙ ap figure (at_lists visits lengths one ∙ sym e) in
    let second : f.other ≡ figure two.other.now = ap (λ g. g.other) r ∙ w.entry other k ∙ ap figure (at_lists visits lengths other ∙ sym d) in
    record {
      first_load = ap (λ g. g.load) first;
      second_load = ap (λ g. g.load) second;
      costs = record { first_cost = ap (λ g. g.cost) first; second_cost = ap (λ g. g.cost) second };
    }
