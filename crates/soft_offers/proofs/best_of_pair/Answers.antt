-- `best_of_pair`: before each visit, the best after the offers of the visits from here on is the best after those of all; the giver's head is driven on.
use mathlib.Core.Path.{refl, sym, ◌∙◌}
use Prim.Native.Nat.{◌-◌}
use native.Mathlib.Omega.{arith}
use Rattle.heads.proofs.Heads.{depot_driven}
use Rattle.soft_offers.proofs.Offering.{offers_turn, offers_end}
use Rattle.soft_offers.proofs.best_of_pair.Goals as goal

pub loop-position-init : goal.loop-position-init
loop-position-init c =
    (rw c.none_below-best.ensures, omega arith, refl, rw c.at_depot-head.ensures (depot_driven _ _ _ _ c.requires.prepared.depot_there))

pub reach-head-requires-clause-depot_lt_l : goal.reach-head-requires-clause-depot_lt_l
reach-head-requires-clause-depot_lt_l c =
    (c.requires.prepared.depot_there, c.requires.two_of.gives, c.loop-position.invariant.1)

pub reach-head-requires-clause-driven : goal.reach-head-requires-clause-driven
reach-head-requires-clause-driven c =
    c.loop-position.invariant.3

pub offer_visit-best-requires-clause-loaded : goal.offer_visit-best-requires-clause-loaded
offer_visit-best-requires-clause-loaded c =
    (c.requires.loaded.0, omega (arith, c.loop-position.invariant.2, c.requires.loaded.1))

pub offer_visit-best-requires-clause-two_of : goal.offer_visit-best-requires-clause-two_of
offer_visit-best-requires-clause-two_of c =
    (c.requires.two_of, c.loop-position-test.true)

pub offer_visit-best-requires-clause-driven_by : goal.offer_visit-best-requires-clause-driven_by
offer_visit-best-requires-clause-driven_by c =
    c.reach-head.ensures.driven_2

pub loop-position-preserved : goal.loop-position-preserved
loop-position-preserved c = (
  rw c.offer_visit-best.ensures
      (offers_turn _ _ c.args.setup c.args.giver.now c.args.receiver.now c.args.pair c.loop-position.best
      c.loop-position.position c.loop-position-test.true)
      ∙ c.loop-position.invariant.0,
  omega (arith, c.loop-position-test.true),
  c.offer_visit-best.auto.buffer ∙ c.loop-position.invariant.2,
  c.reach-head.ensures.driven_2,
)

pub returns : goal.returns
returns c =
    sym (offers_end _ _ c.args.setup c.args.giver.now c.args.receiver.now c.args.pair c.loop-position.best
    c.loop-position.position c.loop-position-test.false) ∙ c.loop-position.invariant.0
