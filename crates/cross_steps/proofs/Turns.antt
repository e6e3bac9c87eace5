-- What a turn makes of the tables, from what its search chose and what the making made of them. Assumes nothing.
use mathlib.Core.Path.{◌≡◌, refl, sym, ap, ◌∙◌}
use mathlib.Core.Bool.{Bool, true, false}
use mathlib.Core.Option.{none, some}
use mathlib.Core.List.{List, [], ◌∷◌, ◌++◌}
use Prim.Native.Nat.{ℕ, ◌+◌, ◌*◌, ◌-◌}
use native.Mathlib.Omega.{arith}
use borrow.Author.Tests.{lt-ltb, ltb-true}
use lib.Dec.{eqb, ltb}
use lib.IntN.{ℤ}
use lib.ListN.{length, take, drop, replicate, length-append, length-drop}
use lib.Seq.{take-append-le, drop-append-le, length-take-le}
use lib.Ieee.{Float}
use Rattle.numbers.specs.Floor.{gain_floor}
use Rattle.day.specs.Matrix.{scale_of}
use Rattle.edits.proofs.Kept.{same_each, same_length}
use Rattle.lists.specs.Table.{lists}
use Rattle.lists.proofs.Tables.{length-lists}
use Rattle.labels.specs.Columns.{Columns}
use Rattle.descent.specs.Search.{Sweep, first_move, next}
use Rattle.descent.proofs.Loops.{place_passed, place_moved, next_sweep}
use Rattle.fleet.specs.Fleet.{Fleet}
use Rattle.loads.specs.Loads.{Held}
use Rattle.cross_moves.specs.CrossDepot.{Plan, after_move, search_of, judge_of, plan_of}
use Rattle.cross_moves.specs.declared.pair.Move.{Move}
use Rattle.cross_choices.specs.Scan.{nothing, is_found, move_of, best_of}
use Rattle.cross_choices.specs.declared.Choice.{Choice}
use Rattle.cross_changes.specs.Tables.{Made}
use Rattle.cross_deltas.specs.Deltas.{KeptIn}
use Rattle.cross_deltas.specs.declared.KeptDeltas.{KeptDeltas}
use Rattle.cross_search.proofs.Keeping.{kept_moved}
use Rattle.cross_steps.specs.Tables.{plan_in, Live, Chosen, MadeIn, MadeBest, MadeFound, step_from, Moved, Turned}
use Rattle.cross_steps.specs.declared.Turn.{Turn}
use Rattle.cross_steps.specs.declared.Turn.TheVariants.{NoGain, NoRoom, Left}
use Rattle.cross_steps.proofs.Parts.{part, cut_at, nones}
use Rattle.cross_steps.proofs.Sound.{choice_is}

-- ---- one search

module _ (c : Columns) (demand : List ℤ) (fleet : Fleet) (visits lengths ids : List ℕ) (costs : List Float) (r : Choice)
    (chosen : Chosen c demand fleet visits lengths ids costs r) where
  abbrev here : Sweep Plan Unit
  here = record { now = plan_of visits lengths ids costs; ahead = [] }

  nowhere : first_move (search_of c demand fleet) (judge_of c demand fleet) (plan_of visits lengths ids costs) [] ≡ none
  unfolding first_move
  nowhere = refl

  fresh : next (search_of c demand fleet) (judge_of c demand fleet) here
      ≡ first_move (search_of c demand fleet) (judge_of c demand fleet) (plan_of visits lengths ids costs) (tt ∷ [])
  unfolding search_of
  fresh = next_sweep (search_of c demand fleet) (judge_of c demand fleet) here nowhere

  no_next : is_found r ≡ false → step_from c demand fleet (plan_of visits lengths ids costs) ≡ none
  unfolding move_of
  no_next e =
      let is : move_of r ≡ none = rw (e, move_of) in
      fresh ∙ place_passed (search_of c demand fleet) (judge_of c demand fleet) (plan_of visits lengths ids costs) tt [] (sym chosen.taken_is ∙ is) ∙ nowhere

  a_next : is_found r ≡ true → step_from c demand fleet (plan_of visits lengths ids costs)
      ≡ some (record { now = after_move (plan_of visits lengths ids costs) r.chosen r.cost1 r.cost2; ahead = [] })
  unfolding search_of move_of
  a_next e =
      let is : move_of r ≡ some r.chosen = rw (e, move_of) in
      fresh ∙ place_moved (search_of c demand fleet) (judge_of c demand fleet) (plan_of visits lengths ids costs) tt [] r.chosen (sym chosen.taken_is ∙ is)
      ∙ ap (λ (q : Plan). some (record { now = q; ahead = [] })) (sym (chosen.leads e))

-- ---- the tables

module _ (l : ℕ) (visits lengths ids : List ℕ) (costs : List Float) (n : ℕ) (live : Live l visits lengths ids costs n) where
  many_lengths : length (take n lengths) ≡ n
  many_lengths = length-take-le n lengths live.few

  many_ids : length (take n ids) ≡ n
  many_ids = length-take-le n ids (omega (arith, live.few, live.even_ids))

  many_costs : length (take n costs) ≡ n
  many_costs = length-take-le n costs (omega (arith, live.few, live.even_costs))

  -- what a search of the first n, lent, asks
  pub asks_part : Held l visits (take (n - 0) (drop 0 lengths)) × (length (take (n - 0) (drop 0 ids)) ≡ length (take (n - 0) (drop 0 lengths)))
      × (length (take (n - 0) (drop 0 costs)) ≡ length (take (n - 0) (drop 0 lengths)))
  asks_part =
      rw (part n lengths, part n ids, part n costs) (live.held, many_ids ∙ sym many_lengths, many_costs ∙ sym many_lengths)

  pub lists-now : length (lists visits (take n lengths)) ≡ n
  lists-now = length-lists visits (take n lengths) ∙ many_lengths

  -- a move made in the first n
  module _ (p : Plan) (m : Move) (cost1 cost2 : Float) (visits' L I : List ℕ) (C : List Float) (kept : ℕ)
      (made : Made p m cost1 cost2 visits visits' L I C kept) (long_L : length L ≡ n) (long-I : length I ≡ n) (long-C : length C ≡ n) where
    front_L : take kept (L ++ drop n lengths) ≡ take kept L
    front_L = take-append-le kept L (drop n lengths) made.few

    front_I : take kept (I ++ drop n ids) ≡ take kept I
    front_I = take-append-le kept I (drop n ids) (omega (arith, made.few))

    front_C : take kept (C ++ drop n costs) ≡ take kept C
    front_C = take-append-le kept C (drop n costs) (omega (arith, made.few))

    plan_on : plan_in kept visits' (L ++ drop n lengths) (I ++ drop n ids) (C ++ drop n costs) ≡ after_move p m cost1 cost2
    plan_on = (λ t. plan_of visits' (front_L t) (front_I t) (front_C t)) ∙ made.holds

    whole_L : length (L ++ drop n lengths) ≡ length lengths
    whole_L = simp (length-append, length-drop) (omega (arith, live.few))

    whole_I : length (I ++ drop n ids) ≡ length lengths
    whole_I = simp (length-append, length-drop) (omega (arith, live.few, live.even_ids))

    whole_C : length (C ++ drop n costs) ≡ length lengths
    whole_C = simp (length-append, length-drop) (omega (arith, live.few, live.even_costs))

    back_L : drop kept (L ++ drop n lengths) ≡ replicate (length (L ++ drop n lengths) - kept) 0
    back_L =
        let more : (length L - kept) + (length lengths - n) ≡ length (L ++ drop n lengths) - kept = omega (arith, made.few, live.few, whole_L) in
        drop-append-le kept L (drop n lengths) made.few ∙ (λ t. made.no_lengths t ++ live.no_lengths t) ∙ nones 0 (length L - kept) (length lengths - n)
        ∙ ap (λ k. replicate k 0) more

    back_I : drop kept (I ++ drop n ids) ≡ replicate (length (L ++ drop n lengths) - kept) 0
    back_I =
        let more : (length I - kept) + (length lengths - n) ≡ length (L ++ drop n lengths) - kept = omega (arith, made.few, live.few, whole_L) in
        drop-append-le kept I (drop n ids) (omega (arith, made.few)) ∙ (λ t. made.no_ids t ++ live.no_ids t) ∙ nones 0 (length I - kept) (length lengths - n)
        ∙ ap (λ k. replicate k 0) more

    live_on : Live l visits' (L ++ drop n lengths) (I ++ drop n ids) (C ++ drop n costs) kept
    live_on = record {
      held = rw front_L (record {
        laid = made.laid;
        below = λ k h. ltb-true _ _ (same_each (λ v. ltb v l) visits visits' made.same (λ i there. lt-ltb _ _ (live.held.below i there)) k h);
        few = rw (same_length visits visits' made.same) live.held.few;
      });
      few = omega (arith, made.few, live.few, whole_L);
      even_ids = whole_I ∙ sym whole_L;
      even_costs = whole_C ∙ sym whole_L;
      no_lengths = back_L;
      no_ids = back_I;
    }

  -- the tables then hold the plan that the move leads to
  made_on : (m : Move) (cost1 cost2 : Float) (visits' lengths' ids' : List ℕ) (costs' : List Float) (left : ℕ)
      → MadeIn n m cost1 cost2 visits lengths ids costs visits' lengths' ids' costs' left
      → length lengths' ≡ length lengths → length ids' ≡ length ids → length costs' ≡ length costs
      → Live l visits' lengths' ids' costs' left × (plan_in left visits' lengths' ids' costs' ≡ after_move (plan_in n visits lengths ids costs) m cost1 cost2)
  made_on m cost1 cost2 visits' lengths' ids' costs' left made long-lengths long-ids long-costs =
      in_parts (take n lengths') (take n ids') (take n costs') (length-take-le n lengths' (omega (arith, long-lengths, live.few)))
      (length-take-le n ids' (omega (arith, long-ids, live.few, live.even_ids)))
      (length-take-le n costs' (omega (arith, long-costs, live.few, live.even_costs))) made.made
      lengths' ids' costs' (cut_at n lengths' lengths made.other_lengths) (cut_at n ids' ids made.other_ids) (cut_at n costs' costs made.other_costs)
    where
      in_parts : (L I : List ℕ) (C : List Float) → length L ≡ n → length I ≡ n → length C ≡ n
          → Made (plan_in n visits lengths ids costs) m cost1 cost2 visits visits' L I C left
          → (lengths'' ids'' : List ℕ) (costs'' : List Float) → lengths'' ≡ L ++ drop n lengths → ids'' ≡ I ++ drop n ids → costs'' ≡ C ++ drop n costs
          → Live l visits' lengths'' ids'' costs'' left
          × (plan_in left visits' lengths'' ids'' costs'' ≡ after_move (plan_in n visits lengths ids costs) m cost1 cost2)
      in_parts L I C many-L many-I many-C now lengths'' ids'' costs'' is-L is-I is-C = rw (is-L, is-I, is-C) (
        live_on _ _ _ _ visits' L I C left now many-L many-I many-C,
        plan_on _ _ _ _ visits' L I C left now many-L many-I many-C,
      )

-- ---- the turn

-- the table of the first n, lent
pub kept_part : (c : Columns) (demand : List ℤ) (fleet : Fleet) (visits lengths ids : List ℕ) (costs : List Float) (floor : Float) (n k : ℕ)
    (deltas : KeptDeltas) → KeptIn c demand fleet (plan_in n visits lengths ids costs) floor k deltas
    → KeptIn c demand fleet (plan_of visits (take (n - 0) (drop 0 lengths)) (take (n - 0) (drop 0 ids)) (take (n - 0) (drop 0 costs))) floor k deltas
kept_part c demand fleet visits lengths ids costs floor n k deltas h = rw (part n lengths, part n ids, part n costs) h

-- the search of the first n, lent
pub chosen_in : (c : Columns) (demand : List ℤ) (fleet : Fleet) (l n : ℕ) (visits lengths ids : List ℕ) (costs : List Float)
    → Live l visits lengths ids costs n → (floor : Float) → floor ≡ gain_floor (scale_of c.distances) → (r : Choice)
    → r ≡ best_of c demand fleet (plan_of visits (take (n - 0) (drop 0 lengths)) (take (n - 0) (drop 0 ids)) (take (n - 0) (drop 0 costs))) (nothing floor)
    → Chosen c demand fleet visits (take n lengths) (take n ids) (take n costs) r
chosen_in c demand fleet l n visits lengths ids costs live floor e r is =
    choice_is c demand fleet visits (take n lengths) (take n ids) (take n costs) live.held.laid floor e r (nothing floor) refl
    (rw (part n lengths, part n ids, part n costs) at is)

module _ (c : Columns) (demand : List ℤ) (fleet : Fleet) (floor : Float) (l n : ℕ) (room : Bool) (visits lengths ids : List ℕ) (costs : List Float)
    (live : Live l visits lengths ids costs n) (enough : floor ≡ gain_floor (scale_of c.distances)) (best : Choice)
    (is : best ≡ best_of c demand fleet (plan_of visits (take (n - 0) (drop 0 lengths)) (take (n - 0) (drop 0 ids)) (take (n - 0) (drop 0 costs)))
    (nothing floor))
    (visits' lengths' ids' : List ℕ) (costs' : List Float) (deltas deltas' : KeptDeltas)
    (right : KeptIn c demand fleet (plan_of visits (take (n - 0) (drop 0 lengths)) (take (n - 0) (drop 0 ids)) (take (n - 0) (drop 0 costs))) floor
    (16 * length (take (n - 0) (drop 0 lengths))) deltas)
    (long-lengths : length lengths' ≡ length lengths) (long-ids : length ids' ≡ length ids) (long-costs : length costs' ≡ length costs) where
  chosen : Chosen c demand fleet visits (take n lengths) (take n ids) (take n costs) best
  chosen = chosen_in c demand fleet l n visits lengths ids costs live floor enough best is

  moved_to : (left : ℕ) → is_found best ≡ true → MadeBest n visits lengths ids costs visits' lengths' ids' costs' deltas deltas' best left
      → Moved c demand fleet floor l n visits lengths ids costs visits' lengths' ids' costs' deltas' left
  moved_to left e now =
      let on = made_on l visits lengths ids costs n live _ _ _ visits' lengths' ids' costs' left now.made long-lengths long-ids long-costs in
      let many = lists-now l visits lengths ids costs n live in
      let few-lists = live.held.laid.few in
      record {
        leads = a_next c demand fleet visits (take n lengths) (take n ids) (take n costs) best chosen e
            ∙ ap (λ (q : Plan). some (record { now = q; ahead = [] })) (sym on.1);
        live = on.0;
        same = now.made.made.same;
        kept = rw now.deltas_are (record {
          long = right.long;
          right = kept_moved c demand fleet (plan_in n visits lengths ids costs) floor
              best.chosen best.cost1 best.cost2
              (many_ids l visits lengths ids costs n live ∙ sym many) (many_costs l visits lengths ids costs n live ∙ sym many) n left
              deltas.kept deltas.one deltas.other deltas.deltas _ on.1 many (omega (arith, many_lengths l visits lengths ids costs n live, few-lists))
              (lists-now l visits' lengths' ids' costs' left on.0)
              (rw (part n lengths, part n ids, part n costs, many_lengths l visits lengths ids costs n live) at right.right) _ refl;
        });
      }

  pub turned : (r : Turn) → MadeFound n visits lengths ids costs visits' lengths' ids' costs' deltas deltas' room best r
      → Turned c demand fleet floor l n visits lengths ids costs visits' lengths' ids' costs' deltas' room r
  turned NoGain out = (no_next c demand fleet visits (take n lengths) (take n ids) (take n costs) best chosen out.0, out.1)
  turned NoRoom out = ((_, a_next c demand fleet visits (take n lengths) (take n ids) (take n costs) best chosen out.0), out.1, out.2)
  turned (Left left) out = (out.1, moved_to left out.0 out.2)
