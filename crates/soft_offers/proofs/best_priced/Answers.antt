-- `best_priced`: where a list has no price there is no move; else both have one, and the pair is searched.
use mathlib.Core.Path.{refl, sym, ◌∙◌}
use Rattle.soft_offers.proofs.Offering.{unpriced_as, priced_as}
use Rattle.soft_offers.proofs.best_priced.Goals as goal
use Rattle.soft_offers.proofs.best_priced.Goals.{then-not-is_finite-via-then-not-is_finite, then-not-is_finite-via-else-not-is_finite+then-not-is_finite-2}

pub returns-then-not-is_finite : goal.returns-then-not-is_finite
returns-then-not-is_finite c =
    elim c.then-not-is_finite.branch [
      | then-not-is_finite-via-then-not-is_finite w ↦ unpriced_as _ c.args.demand.now c.args.setup c.args.giver.now c.args.receiver.now _ _ _ _
          c.price_of-old_from.ensures c.price_of-old_to.ensures _ _ _
          c.is_finite.ensures.answer refl refl _ (rw w.if-not-is_finite.true) c.none_below.ensures
      | then-not-is_finite-via-else-not-is_finite+then-not-is_finite-2 w ↦ unpriced_as _ c.args.demand.now c.args.setup c.args.giver.now
          c.args.receiver.now _ _ _ _ c.price_of-old_from.ensures c.price_of-old_to.ensures _ _ _
          c.is_finite.ensures.answer w.is_finite-else-not-is_finite.ensures.answer refl _
          (rw (w.if-not-is_finite.false, w.if-not-is_finite-2.true)) c.none_below.ensures
    ]

pub load_of-load-requires : goal.load_of-load-requires
load_of-load-requires c =
    (c.requires.loaded.0, c.requires.two_of.takes)

pub best_of_pair-requires-clause-known : goal.best_of_pair-requires-clause-known
best_of_pair-requires-clause-known c = (
  record {
    price_from = c.price_of-old_from.ensures;
    price_to = c.price_of-old_to.ensures;
    finite_from = sym c.is_finite.ensures.answer ∙ c.if-not-is_finite.false;
    finite_to = sym c.is_finite-else-not-is_finite.ensures.answer ∙ c.if-not-is_finite-2.false;
    load = c.load_of-load.ensures.0;
  },
  c.load_of-load.ensures.1,
)

pub returns : goal.returns
returns c =
    priced_as _ c.args.demand.now c.args.setup c.args.giver.now c.args.receiver.now _ _ _ _
    c.price_of-old_from.ensures c.price_of-old_to.ensures _ _ _
    c.is_finite.ensures.answer c.is_finite-else-not-is_finite.ensures.answer refl _
    (rw (c.if-not-is_finite.false, c.if-not-is_finite-2.false)) _
    c.load_of-load.ensures.0 c.best_of_pair.ensures
