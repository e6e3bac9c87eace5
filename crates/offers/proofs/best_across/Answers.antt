-- `best_across`: before each visit, the scan over what is left comes to the pair's best, and the cache is right.
use borrow.Author.Rules.{rules}
use mathlib.Core.Path.{refl, ap, ◌∙◌}
use native.Mathlib.Omega.{arith}
use lib.ListN.{length}
use Rattle.lists.proofs.Tables.{length_list}
use Rattle.loads.proofs.Tables.{list_visits, lent_visits, one_more}
use Rattle.offers.proofs.Trying.{pairing_start, pairing_turn, pairing_end}
use Rattle.offers.proofs.best_across.Goals as goal

pub load_of-load-requires : goal.load_of-load-requires
load_of-load-requires c =
    let receiving = lent_visits _ _ _ c.requires.loaded.1 _ _ c.list_of-receiver.ensures in
    (c.requires.loaded.0, search rules)

pub loop-position-init : goal.loop-position-init
loop-position-init c = (
  pairing_start _ _ c.args.setup _ _ _ _ c.requires.prepared c.requires.loaded.1 _ _ c.list_of-giver.ensures
      c.list_of-receiver.ensures _ c.requires.cached _ c.none_below-best.ensures,
  refl,
)

pub offer_visit-best-requires-clause-visits : goal.offer_visit-best-requires-clause-visits
offer_visit-best-requires-clause-visits c =
    (rw c.list_of-giver.ensures (list_visits _ _ _ c.requires.loaded.1 c.args.from), c.loop-position-test.true)

pub offer_visit-best-requires-clause-visits_2 : goal.offer_visit-best-requires-clause-visits_2
offer_visit-best-requires-clause-visits_2 c =
    let long = ap length c.list_of-giver.ensures ∙ length_list _ _ c.requires.loaded.1.laid.add_up c.args.from in
    let wide = ap length c.list_of-receiver.ensures ∙ length_list _ _ c.requires.loaded.1.laid.add_up c.args.to in
    let room = one_more _ _ _ c.requires.loaded.1 c.args.from c.args.to c.requires.apart (omega (arith, c.loop-position-test.true, long)) in
    (rw c.list_of-receiver.ensures (list_visits _ _ _ c.requires.loaded.1 c.args.to), omega (arith, wide, room))

pub loop-position-preserved : goal.loop-position-preserved
loop-position-preserved c = (
  pairing_turn _ _ c.args.setup _ _ _ _ c.requires.prepared c.requires.loaded.1 _ _ c.list_of-giver.ensures
      c.list_of-receiver.ensures _ c.load_of-load.ensures.0 c.requires.in_bounds.2 _ _ _ _
      c.loop-position.invariant.0 c.loop-position-test.true _ _ c.offer_visit-best.ensures.0 c.offer_visit-best.ensures.1,
  c.offer_visit-best.auto.buffer ∙ c.loop-position.invariant.1,
)

pub returns-clause-best : goal.returns-clause-best
returns-clause-best c =
    pairing_end _ _ c.args.setup _ _ _ _ c.requires.prepared c.requires.loaded.1 _ _ c.list_of-giver.ensures
    c.list_of-receiver.ensures _ c.none_below-best.ensures _ _ _ c.loop-position.invariant.0 c.requires.apart c.loop-position-test.false
