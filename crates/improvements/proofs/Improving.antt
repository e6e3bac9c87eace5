-- An entry within a list: a refused call changes nothing, and otherwise the run on the caller's part is the run on the list asked for, put back in its place;
-- so the table keeps its visits. Assumes nothing.
use Prim.Native.Nat.{ℕ, zero, suc, ◌+◌, ◌-◌, ◌<◌}
use mathlib.Core.Path.{◌≡◌, refl, sym, ap, ◌∙◌}
use mathlib.Core.Bool.{true}
use Rattle.std.specs.Prelude.{Ok}
use mathlib.Core.List.{List, [], ◌++◌}
use native.Mathlib.Omega.{arith}
use lib.Ieee.{Float}
use lib.ListN.{get_or, take, drop, take-append-drop}
use lib.Seq.{drop-drop, get_or-set_same}
use borrow.Rule.Slice.PartMut.{put_mid}
use Rattle.day.specs.Day.{Day}
use Rattle.day.specs.Refusal.{all_plain}
use Rattle.day.specs.Vehicle.{limits_of}
use Rattle.day.specs.declared.vehicle.Van.{Van}
use Rattle.edits.specs.Total.{total, SameVisits, total_append}
use Rattle.edits.proofs.Kept.{same_length}
use Rattle.lists.specs.Table.{start_of, list_of, with_list, lists}
use Rattle.lists.proofs.Tables.{at_lists, length_list, length-lists, lists_put, part_is, put_is}
use Rattle.labels.specs.Columns.{Columns, Visits, columns_of}
use Rattle.evaluation.specs.Distance.{route_distance}
use Rattle.descent.specs.Search.{Word, settled, stopped}
use Rattle.engine.specs.Engine.{ended_as}
use Rattle.neighbours.specs.Neighbours.{Neighbourhood}
use Rattle.within.specs.Within.{ran_by}
use Rattle.within.proofs.Kept.{ran_same}
use Rattle.refusals.specs.Refusal.{refusal, Fine, visits_fine}
use Rattle.refusals.proofs.NotRefused.{fine}
use Rattle.refusals.specs.Answered.{unless_refused, refused_as, answered}
use Rattle.improvements.specs.Improve.{run_on, improved_as, improved_of, answer_of, improve_answer, improve_visits}
use Rattle.improvements.specs.declared.Improved.{Improved}

-- an end word with its moves, and the distance
pub improved_as_lem : (w : Word) (moves : ℕ) (distance : Float) → improved_of (ended_as w moves) distance ≡ improved_as w moves distance
unfolding improved_of ended_as improved_as
improved_as_lem settled moves distance = refl
improved_as_lem stopped moves distance = refl

-- a list with the same visits in the place of another leaves the table's visits the same
pub with_same : (visits lengths : List ℕ) (r : ℕ) (new : List ℕ) → SameVisits (list_of visits lengths r) new → SameVisits visits (with_list visits lengths r new)
unfolding list_of with_list
with_same visits lengths r new same f =
    let s = start_of lengths r in
    let n = get_or lengths r 0 in
    let rest : total f (take n (drop s visits)) + total f (drop (s + n) visits) ≡ total f (drop s visits) =
    rw (← drop-drop) (sym (total_append f (take n (drop s visits)) (drop n (drop s visits))) ∙ ap (total f) (take-append-drop n (drop s visits))) in
    let whole = sym (total_append f (take s visits) (drop s visits)) ∙ ap (total f) (take-append-drop s visits) in
    let outer = total_append f (take s visits) (new ++ drop (s + n) visits) in
    let inner = total_append f new (drop (s + n) visits) in
    let kept = same f in
    omega arith

module _ (which : Neighbourhood) (d : Day) (van : Van) (visits lengths : List ℕ) (list limit : ℕ) where
  -- what a call that is refused by a number answers and leaves
  pub refused_call : (n : ℕ) → suc n ≡ refusal d van visits lengths list
      → (refused_as (suc n) ≡ improve_answer which d van visits lengths list limit) × (visits ≡ improve_visits which d van visits lengths list limit)
  unfolding improve_answer improve_visits unless_refused
  refused_call n e = rw (← e) (refl, refl)

  -- what a call that isn't refused answers and leaves
  pub answered_call : 0 ≡ refusal d van visits lengths list
      → (Ok (answer_of d van (run_on which d van visits lengths list limit)) ≡ improve_answer which d van visits lengths list limit)
      × (with_list visits lengths list (run_on which d van visits lengths list limit).list ≡ improve_visits which d van visits lengths list limit)
  unfolding improve_answer improve_visits
  answered_call e = (answered refused_as _ 0 _ _ refl e refl, answered (λ m. visits) _ 0 _ _ refl e refl)

  -- by way of the caller's part and the columns built
  pub improved_call : 0 ≡ refusal d van visits lengths list → (c : Columns) → c ≡ columns_of d
      → (start end : ℕ) → start ≡ start_of lengths list → end ≡ start_of lengths list + get_or lengths list 0
      → (part new : List ℕ) (r : Improved) → part ≡ take (end - start) (drop start visits)
      → (let ran = ran_by which c (limits_of van) van.depot limit part in
      new ≡ ran.list → r ≡ improved_as ran.word ran.moves (route_distance c.l c.distances van.depot ran.list)
      → (Ok r ≡ improve_answer which d van visits lengths list limit)
      × (put_mid start (end - start) visits new ≡ improve_visits which d van visits lengths list limit))
  unfolding run_on answer_of
  improved_call none c is start end starts ends part new r p x y =
      let whole = answered_call none in
      let same : part ≡ list_of visits lengths list = p ∙ part_is visits lengths list start end starts ends in
      (rw (y, same, is) whole.0, put_is visits lengths list start end starts ends new ∙ rw (x, same, is) whole.1)

  -- what the run asks of the caller's part
  pub improvable : 0 ≡ refusal d van visits lengths list → (c : Columns) → c ≡ columns_of d → (part : List ℕ) → part ≡ list_of visits lengths list
      → ((van.depot < c.l) × Visits c.l part) × (all_plain c.distances ≡ true)
  improvable none c is part e =
      let f = fine d van visits lengths list (sym none) in
      rw (is, e) ((f.depot, visits_fine d van visits lengths list f), f.day.distances)

  go_same : (n : ℕ) → n ≡ refusal d van visits lengths list → SameVisits visits (improve_visits which d van visits lengths list limit)
  unfolding run_on
  go_same zero e =
      rw (← (answered_call e).1) (with_same visits lengths list _ (ran_same (columns_of d) (limits_of van) van.depot limit
      (list_of visits lengths list) which))
  go_same (suc n) e = rw (← (refused_call n e).1) (λ f. refl)

  -- whatever the numbers, the table keeps its visits
  pub improve_same : SameVisits visits (improve_visits which d van visits lengths list limit)
  improve_same = go_same (refusal d van visits lengths list) refl

  -- the list handed back is the one that the run left
  pub list_back : Fine d van visits lengths list → list_of (with_list visits lengths list (run_on which d van visits lengths list limit).list) lengths list
      ≡ (run_on which d van visits lengths list limit).list
  unfolding run_on
  list_back f =
      let table = f.lists.table in
      let c = columns_of d in
      let ran = ran_by which c (limits_of van) van.depot limit (list_of visits lengths list) in
      let long = same_length (list_of visits lengths list) ran.list (ran_same c (limits_of van) van.depot limit (list_of visits lengths list) which)
      ∙ length_list visits lengths table.laid.add_up list in
      sym (at_lists (with_list visits lengths list ran.list) lengths list)
      ∙ ap (λ ls. get_or ls list []) (lists_put visits lengths table.laid.add_up list ran.list f.lists.there long)
      ∙ get_or-set_same (lists visits lengths) list ran.list [] (rw (length-lists visits lengths) f.lists.there)
