-- The table of least deltas: a search fills it in place by place, and a move that drops no list leaves the entries of the pairs without its two lists right,
-- since what such a pair's search reads is as it was. Assumes nothing.
use mathlib.Core.Path.{◌≡◌, refl, sym, ap, subst, ◌∙◌}
use mathlib.Core.Logic.{◌≢◌}
use mathlib.Core.Bool.{Bool, true, false, cond, not}
use mathlib.Core.List.{List, [], ◌∷◌}
use Prim.Native.Nat.{ℕ, ◌+◌, ◌*◌, ◌≤◌, ◌<◌}
use native.Mathlib.Omega.{arith}
use borrow.Author.Tests.{not-true, ltb-true, eqb-true, eqb-false}
use lib.Dec.{eqb, ltb}
use lib.IntN.{ℤ}
use lib.ListN.{length, get_or, set, length-set}
use lib.Seq.{get_or-set_same, get_or-set_other, set-get_or}
use lib.Ieee.{Float, nan, lt}
use Rattle.numbers.specs.Operations.{◌⊕◌}
use Rattle.tests.specs.Pick.{other}
use Rattle.lists.specs.Table.{lengths_of}
use Rattle.list_changes.specs.Edits.{at, filled}
use Rattle.lists.proofs.Tables.{length-lists}
use Rattle.labels.specs.Columns.{Columns}
use Rattle.descent.proofs.Members.{and_parts}
use Rattle.fleet.specs.Fleet.{Fleet, fleet_vehicle}
use Rattle.cross_moves.specs.CrossDepot.{Plan, pair_of, same_depot, exchanged_by, of_filled, dropped, after_move, first, second, plan_of}
use Rattle.cross_moves.specs.declared.pair.Move.{Move}
use Rattle.cross_choices.specs.Scan.{nothing, best_between, best_of_pair}
use Rattle.cross_choices.specs.declared.Choice.{Choice}
use Rattle.cross_deltas.specs.Deltas.{is_old, kept_of, known, noted, moved_on, least_of, Sunk, Kept, KeptIn}
use Rattle.cross_deltas.specs.declared.KeptDeltas.{KeptDeltas}
use Rattle.std.specs.Prelude.{Option, Some, None}
use Rattle.std.proofs.lemmas.Option.{cond_some}
use Rattle.cross_deltas.proofs.Kept.{kept_none}
use Rattle.cross_search.proofs.Joining.{pair_skipped}

-- ---- old lists

record Old (kept one other a : ℕ) : Type 0 where
  below : a < kept
  not_one : a ≢ one
  not_other : a ≢ other

old_is : (kept one other a : ℕ) → is_old kept one other a ≡ true → Old kept one other a
unfolding is_old
old_is kept one other a e =
    let parts = and_parts (ltb a kept) _ e in
    let two = and_parts (not (eqb a one)) _ parts.1 in
    record {
      below = ltb-true a kept parts.0;
      not_one = eqb-false a one (not-true _ two.0);
      not_other = eqb-false a other (not-true _ two.1);
    }

-- ---- one search

module _ (c : Columns) (demand : List ℤ) (fleet : Fleet) (p : Plan) (floor : Float) (kept one other : ℕ) where
  abbrev Right : ℕ → List Float → Type 0
  Right = Kept c demand fleet p floor kept one other

  abbrev least : ℕ → ℕ → Float
  least = least_of c demand fleet p floor

  -- before a run nothing is known
  pub kept_start : (deltas : List Float) → kept ≡ 0 → Right 0 deltas
  kept_start deltas none = record {
    done = λ a b there there2 before. absurd (omega arith);
    old = λ a b there there2 e f. absurd (omega (arith, none, (old_is kept one other a e).below));
  }

  -- a place by another name
  pub kept_at : (k place : ℕ) (deltas : List Float) → k ≡ place → Right k deltas → Right place deltas
  kept_at k place deltas e h = subst (λ z. Right z deltas) e h

  -- an entry filled in
  module _ (few : length p.lists ≤ 16) (a b : ℕ) (a-there : a < length p.lists) (b_there : b < length p.lists) (deltas : List Float)
      (long : length deltas ≡ 256) (right : Right (16 * a + b) deltas) where
    entry : (x y : ℕ) → x < length p.lists → y < length p.lists → (16 * x + y ≢ 16 * a + b → get_or deltas (16 * x + y) nan ≡ least x y)
        → get_or (set deltas (16 * a + b) (least a b)) (16 * x + y) nan ≡ least x y
    entry x y x-there y-there others = by (eqb (16 * x + y) (16 * a + b)) refl
      where
        by : (t : Bool) → eqb (16 * x + y) (16 * a + b) ≡ t → get_or (set deltas (16 * a + b) (least a b)) (16 * x + y) nan ≡ least x y
        by true e =
            let same : 16 * x + y ≡ 16 * a + b = eqb-true (16 * x + y) (16 * a + b) e in
            let first-same : a ≡ x = omega (arith, same, few, y-there, b_there) in
            let second-same : b ≡ y = omega (arith, same, first-same) in
            ap (λ z. get_or (set deltas (16 * a + b) (least a b)) z nan) same
            ∙ get_or-set_same deltas (16 * a + b) (least a b) nan (omega (arith, a-there, b_there, few, long))
            ∙ (λ t. least (first-same t) (second-same t))
        by false e =
            let unlike : 16 * x + y ≢ 16 * a + b = eqb-false (16 * x + y) (16 * a + b) e in
            get_or-set_other deltas (16 * a + b) (16 * x + y) (least a b) nan unlike ∙ others unlike

    pub kept_turn : (after : List Float) → after ≡ set deltas (16 * a + b) (least a b) → Right (16 * a + (b + 1)) after
    kept_turn after is = subst (Right (16 * a + (b + 1))) (sym is) (record {
      done = λ x y x-there y-there before.
          entry x y x-there y-there (λ unlike. right.done x y x-there y-there (omega (arith, before, unlike)));
      old = λ x y x-there y-there e f. entry x y x-there y-there (λ unlike. right.old x y x-there y-there e f);
    })

  -- a row filled in
  pub kept_row : (a k : ℕ) (deltas : List Float) → length p.lists ≤ k → length p.lists ≤ 16 → Right (16 * a + k) deltas → Right (16 * (a + 1)) deltas
  kept_row a k deltas all few right = record {
    done = λ x y x-there y-there before. right.done x y x-there y-there (omega (arith, before, all, few, y-there));
    old = right.old;
  }

  -- an entry as it is
  pub kept_entry : (a b : ℕ) (deltas : List Float) → get_or deltas (16 * a + b) nan ≡ least a b → deltas ≡ set deltas (16 * a + b) (least a b)
  kept_entry a b deltas is = sym (ap (λ w. set deltas (16 * a + b) w) (sym is) ∙ set-get_or deltas (16 * a + b) nan)

-- ---- a move that drops no list

filled-few : (ls : List (List ℕ)) → length (filled ls) ≤ length ls
filled-few [] = omega arith
filled-few ([] ∷ ls) = let rest = filled-few ls in omega arith
filled-few ((x ∷ xs) ∷ ls) = let rest = filled-few ls in omega arith

filled_all : (ls : List (List ℕ)) → length (filled ls) ≡ length ls → filled ls ≡ ls
filled_all [] e = refl
filled_all ([] ∷ ls) e = let few = filled-few ls in absurd (omega arith)
filled_all ((x ∷ xs) ∷ ls) e = ap (λ rest. (x ∷ xs) ∷ rest) (filled_all ls (omega arith))

of_filled_all : {A : Type 0} (ls : List (List ℕ)) (column : List A) → length (filled ls) ≡ length ls → length column ≡ length ls
    → of_filled (lengths_of ls) column ≡ column
unfolding of_filled lengths_of
of_filled_all [] [] e h = refl
of_filled_all [] (x ∷ column) e h = absurd (omega arith)
of_filled_all ([] ∷ ls) column e h = let few = filled-few ls in absurd (omega arith)
of_filled_all ((y ∷ ys) ∷ ls) [] e h = absurd (omega arith)
of_filled_all ((y ∷ ys) ∷ ls) (x ∷ column) e h = ap (λ rest. x ∷ rest) (of_filled_all ls column (omega arith) (omega arith))

-- an entry of a column that has others set
set_others : {A : Type 0} (xs : List A) (one other a : ℕ) (x y none : A) → a ≢ one → a ≢ other → get_or (set (set xs one x) other y) a none ≡ get_or xs a none
set_others xs one other a x y none h k = get_or-set_other (set xs one x) other a y none k ∙ get_or-set_other xs one a x none h

module _ (c : Columns) (demand : List ℤ) (fleet : Fleet) (p : Plan) (floor : Float) (m : Move) (cost1 cost2 : Float)
    (even-ids : length p.ids ≡ length p.lists) (even-costs : length p.costs ≡ length p.lists) where
  abbrev changed : List (List ℕ)
  changed = exchanged_by p.lists m

  length-changed : length changed ≡ length p.lists
  unfolding exchanged_by
  length-changed = length-set (set p.lists m.one (first p.lists m)) m.other (second p.lists m)
      ∙ length-set p.lists m.one (first p.lists m)

  record Same (q : Plan) (a : ℕ) : Type 0 where
    same_list : at q.lists a ≡ at p.lists a
    same_id : get_or q.ids a 0 ≡ get_or p.ids a 0
    same_cost : get_or q.costs a nan ≡ get_or p.costs a nan

  list_same : (q : Plan) → q ≡ after_move p m cost1 cost2 → length q.lists ≡ length p.lists → (a : ℕ) → a ≢ m.one → a ≢ m.other → Same q a
  unfolding after_move dropped exchanged_by
  list_same q is none_dropped a h k =
      let many : length (filled changed) ≡ length p.lists = ap (λ (z : Plan). length z.lists) (sym is) ∙ none_dropped in
      let all : length (filled changed) ≡ length changed = many ∙ sym length-changed in
      let costs : List Float = set (set p.costs m.one cost1) m.other cost2 in
      let long-costs : length costs ≡ length changed
      = length-set (set p.costs m.one cost1) m.other cost2 ∙ length-set p.costs m.one cost1 ∙ even-costs ∙ sym length-changed in
      record {
        same_list = ap (λ (z : Plan). at z.lists a) is ∙ ap (λ ls. at ls a) (filled_all changed all)
            ∙ set_others p.lists m.one m.other a (first p.lists m) (second p.lists m) [] h k;
        same_id = ap (λ (z : Plan). get_or z.ids a 0) is
            ∙ ap (λ ids. get_or ids a 0) (of_filled_all changed p.ids all (even-ids ∙ sym length-changed));
        same_cost = ap (λ (z : Plan). get_or z.costs a nan) is ∙ ap (λ z. get_or z a nan) (of_filled_all changed costs all long-costs)
            ∙ set_others p.costs m.one m.other a cost1 cost2 nan h k;
      }

  least-same : (q : Plan) (a b : ℕ) → Same q a → Same q b → least_of c demand fleet q floor a b ≡ least_of c demand fleet p floor a b
  unfolding least_of best_of_pair pair_of
  least-same q a b x y =
      λ t. (cond (same_depot (pair t)) (nothing floor) (best_between c demand (pair t) (x.same_list t) (y.same_list t) (nothing floor))).delta
    where
      pair : pair_of fleet q.ids q.costs a b ≡ pair_of fleet p.ids p.costs a b
      pair = λ t. record {
        one = a;
        other = b;
        van1 = fleet_vehicle fleet (x.same_id t);
        van2 = fleet_vehicle fleet (y.same_id t);
        before = x.same_cost t ⊕ y.same_cost t;
      }

  -- what the table still has after the move
  pub kept_moved : (n left kept one other : ℕ) (deltas : List Float) (q : Plan) → q ≡ after_move p m cost1 cost2 → length p.lists ≡ n → n ≤ 16
      → length q.lists ≡ left → Kept c demand fleet p floor kept one other (16 * n) deltas → (after : ℕ) → after ≡ kept_of n left
      → Kept c demand fleet q floor after m.one m.other 0 deltas
  kept_moved n left kept one other deltas q is many few now right after kept-is = by (eqb left n) refl
    where
      by : (t : Bool) → eqb left n ≡ t → Kept c demand fleet q floor after m.one m.other 0 deltas
      by false e = kept_start c demand fleet q floor after m.one m.other deltas (kept-is ∙ sym (kept_none n left (eqb-false left n e)))
      by true e =
          let none_dropped : length q.lists ≡ length p.lists = now ∙ eqb-true left n e ∙ sym many in
          record {
            done = λ a b a-there b_there before. absurd (omega arith);
            old = λ a b a-there b_there f g.
                let x = old_is after m.one m.other a f in
                let y = old_is after m.one m.other b g in
                right.done a b (omega (arith, none_dropped)) (omega (arith, none_dropped)) (omega (arith, a-there, b_there, none_dropped, many, few))
                ∙ sym (least-same q a b (list_same q is none_dropped a x.not_one x.not_other)
                (list_same q is none_dropped b y.not_one y.not_other));
          }

-- ---- the tables

module _ (c : Columns) (demand : List ℤ) (fleet : Fleet) (visits lengths ids : List ℕ) (costs : List Float) (floor : Float) (kept one other : ℕ) where
  abbrev Table : ℕ → List Float → Type 0
  Table = Kept c demand fleet (plan_of visits lengths ids costs) floor kept one other

  module _ (few : length lengths ≤ 16) where
    pub table_turn : (a b : ℕ) → a < length lengths → b < length lengths → (deltas : List Float) → length deltas ≡ 256 → Table (16 * a + b) deltas
        → (after : List Float) → after ≡ set deltas (16 * a + b) (least_of c demand fleet (plan_of visits lengths ids costs) floor a b)
        → Table (16 * a + (b + 1)) after
    table_turn a b a-there b_there deltas long right after is =
        let many = length-lists visits lengths in
        kept_turn c demand fleet (plan_of visits lengths ids costs) floor kept one other (omega (arith, many, few)) a b (omega (arith, many, a-there))
        (omega (arith, many, b_there)) deltas long right after is

    pub table_row : (a k : ℕ) (deltas : List Float) → length lengths ≤ k → Table (16 * a + k) deltas → Table (16 * (a + 1)) deltas
    table_row a k deltas all right =
        let many = length-lists visits lengths in
        kept_row c demand fleet (plan_of visits lengths ids costs) floor kept one other a k deltas (omega (arith, many, all)) (omega (arith, many, few)) right

  -- all rows filled in
  pub table_whole : (a : ℕ) (deltas : List Float) → length lengths ≤ a → Table (16 * a) deltas → Table (16 * length lengths) deltas
  table_whole a deltas all right = record {
    done = λ x y x-there y-there before. right.done x y x-there y-there (omega (arith, before, all));
    old = right.old;
  }

  -- a pair left out: its entry isn't below the best
  pub pair_left : (a b : ℕ) (best : Choice) → Sunk floor best → a < length lengths → b < length lengths → (deltas : List Float) → Table (16 * a + b) deltas
      → is_old kept one other a ≡ true → is_old kept one other b ≡ true → lt (get_or deltas (16 * a + b) nan) best.delta ≡ false
      → (best ≡ best_of_pair c demand fleet (plan_of visits lengths ids costs) a b best)
      × (deltas ≡ set deltas (16 * a + b) (least_of c demand fleet (plan_of visits lengths ids costs) floor a b))
  pair_left a b best sunk a-there b_there deltas right e f not-less =
      let many = length-lists visits lengths in
      let known = right.old a b (omega (arith, many, a-there)) (omega (arith, many, b_there)) e f in (
        pair_skipped c demand fleet (plan_of visits lengths ids costs) floor a b best sunk (get_or deltas (16 * a + b) nan) known not-less,
        kept_entry c demand fleet (plan_of visits lengths ids costs) floor kept one other a b deltas known,
      )

-- ---- the table of a run

module _ (c : Columns) (demand : List ℤ) (fleet : Fleet) (visits lengths ids : List ℕ) (costs : List Float) (floor : Float) (t : KeptDeltas) where
  abbrev In : ℕ → KeptDeltas → Type 0
  In = KeptIn c demand fleet (plan_of visits lengths ids costs) floor

  pub table_at : (k place : ℕ) → k ≡ place → In k t → In place t
  table_at k place e h = subst (λ z. In z t) e h

  pub noted_turn : (few : length lengths ≤ 16) (a b : ℕ) → a < length lengths → b < length lengths → In (16 * a + b) t → (after : KeptDeltas)
      → after ≡ noted t a b (least_of c demand fleet (plan_of visits lengths ids costs) floor a b) → In (16 * a + (b + 1)) after
  noted_turn few a b a-there b_there kept after is = subst (In (16 * a + (b + 1))) (sym is) (record {
    long = length-set t.deltas (16 * a + b) _ ∙ kept.long;
    right = table_turn c demand fleet visits lengths ids costs floor t.kept t.one t.other few a b a-there b_there t.deltas kept.long kept.right _ refl;
  })

  pub noted_row : (few : length lengths ≤ 16) (a k : ℕ) → length lengths ≤ k → In (16 * a + k) t → In (16 * (a + 1)) t
  noted_row few a k all kept = record {
    long = kept.long;
    right = table_row c demand fleet visits lengths ids costs floor t.kept t.one t.other few a k t.deltas all kept.right;
  }

  pub noted_whole : (a : ℕ) → length lengths ≤ a → In (16 * a) t → In (16 * length lengths) t
  noted_whole a all kept = record {
    long = kept.long;
    right = table_whole c demand fleet visits lengths ids costs floor t.kept t.one t.other a t.deltas all kept.right;
  }

  -- a pair left out: what is known of it isn't below the best
  pub known_left : (a b : ℕ) (best : Choice) → Sunk floor best → a < length lengths → b < length lengths → In (16 * a + b) t → (least : Float)
      → known t a b ≡ Some least → lt least best.delta ≡ false
      → (best ≡ best_of_pair c demand fleet (plan_of visits lengths ids costs) a b best)
      × (t ≡ noted t a b (least_of c demand fleet (plan_of visits lengths ids costs) floor a b))
  unfolding known
  known_left a b best sunk a-there b_there kept least is not-less =
      let parts = cond_some _ _ _ is in
      let old = and_parts _ _ parts.0 in
      let left = pair_left c demand fleet visits lengths ids costs floor t.kept t.one t.other a b best sunk a-there b_there t.deltas kept.right old.0 old.1
      (ap (λ x. lt x best.delta) parts.1 ∙ not-less) in
      (left.0, λ k. record { deltas = left.1 k; kept = t.kept; one = t.one; other = t.other })
