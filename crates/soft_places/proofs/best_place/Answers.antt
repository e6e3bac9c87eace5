-- `best_place`: before each place, the best among the places from here on is the best among all; the front of the buffer is the list with the visit at this
-- place, and behind the list's head it is what is priced.
use borrow.Author.Rules.{rules}
use mathlib.Core.Path.{refl, sym, ap, ◌∙◌}
use Prim.Native.Nat.{◌+◌, ◌-◌}
use native.Mathlib.Omega.{arith}
use lib.ListN.{take}
use Rattle.heads.proofs.Heads.{depot_driven}
use Rattle.loads.proofs.Visits.{visits_inserted}
use Rattle.soft_places.proofs.Laid.{stepped, part_visits, price_inserted}
use Rattle.soft_places.proofs.Placing.{among_turn, among_end}
use Rattle.soft_places.proofs.best_place.Goals as goal

pub inserted_first-end-requires : goal.inserted_first-end-requires
inserted_first-end-requires c =
    omega (arith, c.requires.in_bounds, c.requires.visits.1)

pub loop-place-init : goal.loop-place-init
loop-place-init c =
    (refl, c.inserted_first-end.ensures.buffer_after, omega arith, refl, rw c.at_depot-head.ensures (depot_driven _ _ _ _ c.requires.prepared.depot_there))

pub reach-head-requires-clause-depot_lt_l : goal.reach-head-requires-clause-depot_lt_l
reach-head-requires-clause-depot_lt_l c =
    (c.requires.prepared.depot_there, c.requires.visits.0, c.loop-place.invariant.2)

pub reach-head-requires-clause-driven : goal.reach-head-requires-clause-driven
reach-head-requires-clause-driven c =
    c.loop-place.invariant.4

pub offset_bounds-buffer-from : goal.offset_bounds-buffer-from
offset_bounds-buffer-from c =
    omega (arith, c.reach-head.ensures.visits_le_to, c.loop-place.invariant.2, c.requires.visits.1)

pub slice_bounds-price_from-count : goal.slice_bounds-price_from-count
slice_bounds-price_from-count c =
    omega (arith, c.reach-head.ensures.visits_le_to, c.loop-place.invariant.2, c.inserted_first-end.ensures.value)

pub slice_bounds-price_from-start : goal.slice_bounds-price_from-start
slice_bounds-price_from-start c =
    omega (arith, c.reach-head.ensures.visits_le_to, c.loop-place.invariant.2, c.inserted_first-end.ensures.value)

pub slice_bounds-price_from-end : goal.slice_bounds-price_from-end
slice_bounds-price_from-end c =
    omega (
      arith,
      c.loop-place.invariant.3,
      c.inserted_first-end.ensures.value,
      c.inserted_first-end.auto.buffer,
      c.requires.in_bounds,
      c.requires.visits.1,
    )

pub price_from-new-requires : goal.price_from-new-requires
price_from-new-requires c =
    let all = visits_inserted _ c.args.list.now c.args.offer.visit c.loop-place.place c.requires.visits.0 c.requires.visits.1 c.requires.visits.2 in (
      c.requires.prepared.depot_there,
      c.reach-head.ensures.driven_2.placed,
      part_visits _ c.reach-head.result.visits c.inserted_first-end.result c.loop-place.buffer _
          (omega (arith, c.reach-head.ensures.visits_le_to, c.loop-place.invariant.2, c.inserted_first-end.ensures.value)) c.loop-place.invariant.1 all,
    )

pub returns-then-place-list : goal.returns-then-place-list
returns-then-place-list c =
    let new = c.price_from-new.ensures ∙ price_inserted _ _ _ c.args.list.now c.reach-head.result c.reach-head.ensures.driven_2
    c.args.offer.visit c.loop-place.place c.inserted_first-end.result
    c.loop-place.buffer (c.reach-head.ensures.visits_le_to, c.loop-place.invariant.2) c.inserted_first-end.ensures.value c.loop-place.invariant.1 in
    let turn = among_turn _ _ _ c.args.list.now c.args.offer c.loop-place.after c.loop-place.place _ _ _ c.loop-place.invariant.2 new
    (λ e. let told = c.better_of-after.ensures.1 e in search rules) c.better_of-after.ensures.2 in
    sym (among_end _ _ _ c.args.list.now c.args.offer _ (c.loop-place.place + 1) (omega (arith, c.if-place-list.true))) ∙ turn ∙ c.loop-place.invariant.0

pub step_on-requires : goal.step_on-requires
step_on-requires c = (
  omega (
    arith,
    c.if-place-list.false,
    c.loop-place.invariant.2,
    c.loop-place.invariant.3,
    c.inserted_first-end.auto.buffer,
    c.requires.in_bounds,
    c.requires.visits.1,
  ),
  omega (arith, c.loop-place.invariant.2, c.requires.visits.1),
)

pub overflow_add-place : goal.overflow_add-place
overflow_add-place c =
    omega (arith, c.loop-place.invariant.2, c.requires.visits.1)

pub loop-place-smaller : goal.loop-place-smaller
loop-place-smaller c =
    omega (arith, c.if-place-list.false, c.loop-place.invariant.2)

pub loop-place-preserved : goal.loop-place-preserved
loop-place-preserved c =
    let new = c.price_from-new.ensures ∙ price_inserted _ _ _ c.args.list.now c.reach-head.result c.reach-head.ensures.driven_2
    c.args.offer.visit c.loop-place.place c.inserted_first-end.result
    c.loop-place.buffer (c.reach-head.ensures.visits_le_to, c.loop-place.invariant.2) c.inserted_first-end.ensures.value c.loop-place.invariant.1 in
    let turn = among_turn _ _ _ c.args.list.now c.args.offer c.loop-place.after c.loop-place.place _ _ _ c.loop-place.invariant.2 new
    (λ e. let told = c.better_of-after.ensures.1 e in search rules) c.better_of-after.ensures.2 in
    let on = stepped c.args.list.now c.args.offer.visit c.loop-place.place c.inserted_first-end.result c.loop-place.buffer
    (omega (arith, c.if-place-list.false, c.loop-place.invariant.2))
    (omega (arith, c.inserted_first-end.ensures.value)) c.loop-place.invariant.1 in (
      turn ∙ c.loop-place.invariant.0,
      ap (take c.inserted_first-end.result) c.step_on.ensures ∙ on,
      omega (arith, c.if-place-list.false, c.loop-place.invariant.2),
      c.step_on.auto.buffer ∙ c.loop-place.invariant.3,
      c.reach-head.ensures.driven_2,
    )
