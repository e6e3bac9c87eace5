-- Every move of the search can be made: it is between two lists of different depots, and its stretches lie in them. Assumes nothing.
use mathlib.Core.Path.{◌≡◌, refl, sym, subst, ◌∙◌}
use mathlib.Core.Logic.{◌⊎◌, inl, inr, ◌≢◌}
use mathlib.Core.Bool.{Bool, true, false, cond}
use mathlib.Core.Option.{some}
use mathlib.Core.List.{List, [], ◌++◌, map}
use Prim.Native.Nat.{ℕ, ◌+◌, ◌≤◌, ◌<◌}
use native.Mathlib.Omega.{arith}
use lib.Dec.{eqb, ltb}
use lib.IntN.{ℤ}
use lib.ListN.{length}
use lib.Ieee.{Float}
use Rattle.numbers.specs.Floor.{gain_floor}
use Rattle.day.specs.Matrix.{scale_of}
use Rattle.lists.specs.Table.{Laid}
use Rattle.list_changes.specs.Edits.{at}
use Rattle.lists.proofs.Tables.{length-lists, length_at}
use Rattle.labels.specs.Columns.{Columns}
use Rattle.descent.specs.Order.{◌∈◌, range, each}
use Rattle.descent.specs.Search.{taken}
use Rattle.descent.proofs.Members.{not_in, in_either, range_in, each_in, map_in}
use Rattle.descent.proofs.Sweeps.{first_least-some}
use Rattle.fleet.specs.Fleet.{Fleet}
use Rattle.cross_moves.specs.CrossDepot.{Plan, is_tested, relocation, stretch_end, exchange, cuts, relocations, swaps, tail_exchanges, pair_of, same_depot, plan_of}
use Rattle.cross_moves.specs.CrossDepot.{between_lists, of_pair, moves, moved, search_of, judge_of}
use Rattle.cross_choices.specs.Scan.{nothing, is_found, move_of, best_of}
use Rattle.cross_changes.specs.Tables.{Makes}
use Rattle.cross_steps.specs.Tables.{Chosen}
use Rattle.cross_moves.specs.declared.pair.Move.{Move}
use Rattle.cross_choices.specs.declared.Choice.{Choice}
use Rattle.cross_search.proofs.Pairs.{depots_apart}
use Rattle.cross_search.proofs.Choosing.{chosen}

-- ---- stretches and cuts

-- a visit of a swap takes one place of a list, a cut none
abbrev single : Bool → ℕ
single true = 0
single false = 1

stretch_within : (tails : Bool) (n k end : ℕ) → end ≡ stretch_end tails n k → k + single tails ≤ n → (k ≤ end) × (end ≤ n)
stretch_within true n k end e h = (omega arith, omega arith)
stretch_within false n k end e h = (omega arith, omega arith)

cuts-few : (n1 n2 k : ℕ) → cuts n1 n2 k ≤ n2 + 1
cuts-few n1 n2 k = by_test (eqb k n1)
  where
    by_test : (b : Bool) → cond b n2 (n2 + 1) ≤ n2 + 1
    by_test true = omega arith
    by_test false = omega arith

-- ---- moves

-- the loads of both lists are tested, or the first takes nothing in the place of its stretch
abbrev pub TestedOrLess : Move → Type 0
TestedOrLess m = (is_tested m ≡ true) ⊎ ((m.from1 ≤ m.to1) × (m.from2 ≡ m.to2))

-- a move between lists a and b of so many visits
record Between (a b n1 n2 : ℕ) (m : Move) : Type 0 where
  is_one : m.one ≡ a
  is_other : m.other ≡ b
  ordered1 : m.from1 ≤ m.to1
  within1 : m.to1 ≤ n1
  ordered2 : m.from2 ≤ m.to2
  within2 : m.to2 ≤ n2
  tested_or_less : TestedOrLess m

module _ (a b n1 n2 : ℕ) (m : Move) where
  in_relocations : m ∈ relocations a b n1 n2 → Between a b n1 n2 m
  unfolding relocations
  in_relocations h =
      let row = each_in (λ position. map (relocation a b position) (range 0 (n2 + 1))) (range 0 n1) m h in
      let one = map_in (relocation a b row.0) (range 0 (n2 + 1)) m row.2 in
      let position = range_in 0 n1 row.0 row.1 in
      let place = range_in 0 (n2 + 1) one.0 one.1 in
      subst (Between a b n1 n2) one.2 (record {
        is_one = refl;
        is_other = refl;
        ordered1 = omega arith;
        within1 = omega (arith, position.1);
        ordered2 = omega arith;
        within2 = omega (arith, place.1);
        tested_or_less = inr (omega arith, refl);
      })

  exchange_between : (tails : Bool) (k1 k2 : ℕ) → k1 + single tails ≤ n1 → k2 + single tails ≤ n2 → exchange tails a b n1 n2 k1 k2 ≡ m → Between a b n1 n2 m
  exchange_between tails k1 k2 h1 h2 e =
      let first = stretch_within tails n1 k1 _ refl h1 in
      let second = stretch_within tails n2 k2 _ refl h2 in
      subst (Between a b n1 n2) e (record {
        is_one = refl;
        is_other = refl;
        ordered1 = first.0;
        within1 = first.1;
        ordered2 = second.0;
        within2 = second.1;
        tested_or_less = inl refl;
      })

  in_swaps : m ∈ swaps a b n1 n2 → Between a b n1 n2 m
  unfolding swaps
  in_swaps h =
      let row = each_in (λ pa. map (exchange false a b n1 n2 pa) (range 0 n2)) (range 0 n1) m h in
      let one = map_in (exchange false a b n1 n2 row.0) (range 0 n2) m row.2 in
      let k1 = range_in 0 n1 row.0 row.1 in
      let k2 = range_in 0 n2 one.0 one.1 in
      exchange_between false row.0 one.0 (omega (arith, k1.1)) (omega (arith, k2.1)) one.2

  in_tails : m ∈ tail_exchanges a b n1 n2 → Between a b n1 n2 m
  unfolding tail_exchanges
  in_tails h =
      let row = each_in (λ i. map (exchange true a b n1 n2 i) (range 0 (cuts n1 n2 i))) (range 0 (n1 + 1)) m h in
      let one = map_in (exchange true a b n1 n2 row.0) (range 0 (cuts n1 n2 row.0)) m row.2 in
      let k1 = range_in 0 (n1 + 1) row.0 row.1 in
      let k2 = range_in 0 (cuts n1 n2 row.0) one.0 one.1 in
      exchange_between true row.0 one.0 (omega (arith, k1.1)) (omega (arith, k2.1, cuts-few n1 n2 row.0)) one.2

  in_between : m ∈ between_lists a b n1 n2 → Between a b n1 n2 m
  unfolding between_lists
  in_between h = by_kind (in_either (relocations a b n1 n2) _ m h)
    where
      others : (t : Bool) → m ∈ cond t (swaps a b n1 n2 ++ tail_exchanges a b n1 n2) [] → Between a b n1 n2 m
      others true k = two (in_either (swaps a b n1 n2) (tail_exchanges a b n1 n2) m k)
        where
          two : (m ∈ swaps a b n1 n2) ⊎ (m ∈ tail_exchanges a b n1 n2) → Between a b n1 n2 m
          two (inl k) = in_swaps k
          two (inr k) = in_tails k
      others false k = not_in k

      by_kind : (m ∈ relocations a b n1 n2) ⊎ (m ∈ cond (ltb a b) (swaps a b n1 n2 ++ tail_exchanges a b n1 n2) []) → Between a b n1 n2 m
      by_kind (inl k) = in_relocations k
      by_kind (inr k) = others (ltb a b) k

module _ (fleet : Fleet) (p : Plan) (m : Move) where
  in_pair : (a b : ℕ) → m ∈ of_pair fleet p a b → (a ≢ b) × Between a b (length (at p.lists a)) (length (at p.lists b)) m
  unfolding of_pair
  in_pair a b h = by_depot (same_depot (pair_of fleet p.ids p.costs a b)) refl h
    where
      by_depot : (t : Bool) → same_depot (pair_of fleet p.ids p.costs a b) ≡ t
          → m ∈ cond t [] (between_lists a b (length (at p.lists a)) (length (at p.lists b)))
          → (a ≢ b) × Between a b (length (at p.lists a)) (length (at p.lists b)) m
      by_depot true e k = not_in k
      by_depot false e k = (depots_apart fleet p.ids p.costs a b e, in_between a b (length (at p.lists a)) (length (at p.lists b)) m k)

  -- a move is between two lists of the plan
  in_plan : m ∈ moves fleet p
      → (a : ℕ) × (b : ℕ) × (a < length p.lists) × (b < length p.lists) × (a ≢ b) × Between a b (length (at p.lists a)) (length (at p.lists b)) m
  unfolding moves
  in_plan h =
      let row = each_in (λ a. each (range 0 (length p.lists)) (of_pair fleet p a)) (range 0 (length p.lists)) m h in
      let one = each_in (of_pair fleet p row.0) (range 0 (length p.lists)) m row.2 in
      let a-there = range_in 0 (length p.lists) row.0 row.1 in
      let b_there = range_in 0 (length p.lists) one.0 one.1 in
      let inside = in_pair row.0 one.0 one.2 in
      (row.0, one.0, a-there.1, b_there.1, inside.0, inside.1)

  pub move_tested : m ∈ moves fleet p → (m.one < length p.lists) × TestedOrLess m
  move_tested h = let inside = in_plan h in (omega (arith, inside.2, inside.5.is_one), inside.5.tested_or_less)

-- a move of the tables' plan can be made
module _ (fleet : Fleet) (visits lengths ids : List ℕ) (costs : List Float) (laid : Laid visits lengths) (m : Move) where
  in_moves : m ∈ moves fleet (plan_of visits lengths ids costs) → Makes visits lengths m
  in_moves h =
      let inside = in_plan fleet (plan_of visits lengths ids costs) m h in
      let here = inside.5 in
      let apart : m.one ≢ m.other = λ e. inside.4 (sym here.is_one ∙ e ∙ here.is_other) in
      record {
        laid = laid;
        one_there = omega (arith, inside.2, length-lists visits lengths, here.is_one);
        other_there = omega (arith, inside.3, length-lists visits lengths, here.is_other);
        apart = apart;
        ordered1 = here.ordered1;
        within1 = rw here.is_one (rw (length_at visits lengths laid.add_up inside.0) at here.within1);
        ordered2 = here.ordered2;
        within2 = rw here.is_other (rw (length_at visits lengths laid.add_up inside.1) at here.within2);
      }

module _ (c : Columns) (demand : List ℤ) (fleet : Fleet) (visits lengths ids : List ℕ) (costs : List Float) (laid : Laid visits lengths) where
  of_moves : (m : Move) → taken (search_of c demand fleet) (judge_of c demand fleet) (plan_of visits lengths ids costs) tt ≡ some m
      → m ∈ moves fleet (plan_of visits lengths ids costs)
  unfolding taken search_of
  of_moves m e = (first_least-some _ _ (moves fleet (plan_of visits lengths ids costs)) m e).0

  move-is : (r : Choice) → is_found r ≡ true → move_of r ≡ some r.chosen
  unfolding move_of
  move-is r e = rw (e, move_of)

  pub choice_is : (floor : Float) → floor ≡ gain_floor (scale_of c.distances) → (r none : Choice) → none ≡ nothing floor
      → r ≡ best_of c demand fleet (plan_of visits lengths ids costs) none → Chosen c demand fleet visits lengths ids costs r
  unfolding moved
  choice_is floor e r none is_none is =
      let told = chosen c demand fleet (plan_of visits lengths ids costs) floor e r (rw is_none at is) in
      record {
        taken_is = told.0;
        makes = λ found. in_moves fleet visits lengths ids costs laid r.chosen (of_moves r.chosen (sym told.0 ∙ move-is r found));
        leads = λ found. rw ((told.1.costs found).0, (told.1.costs found).1);
      }
