-- `consider`: each of its ends is one case of the definition's choice with one exchange more.
use mathlib.Core.Path.{sym, ◌∙◌}
use Rattle.tail_candidates.proofs.Considering.{no_room, stays_out, stays_delta, taken_up}
use Rattle.tail_candidates.proofs.consider.Goals as goal

pub returns-then-load1-two : goal.returns-then-load1-two
returns-then-load1-two g c =
    let pair = c.args.pair.now in
    stays_out _ _ c.args.cut1 c.args.cut2 _
    (no_room _ _ _ _ (λ e. (rw c.requires.two at (g.met.P.TailPair.has_room pair c.args.cut1 c.args.cut2 e)).one) c.requires.load1 c.if-load1-two.true)

pub returns-then-load2-two : goal.returns-then-load2-two
returns-then-load2-two g c =
    let pair = c.args.pair.now in
    stays_out _ _ c.args.cut1 c.args.cut2 _
    (no_room _ _ _ _ (λ e. (rw c.requires.two at (g.met.P.TailPair.has_room pair c.args.cut1 c.args.cut2 e)).other) c.requires.load2 c.if-load2-two.true)

pub returns-then-not-delta-best : goal.returns-then-not-delta-best
returns-then-not-delta-best g c =
    stays_delta _ _ c.args.cut1 c.args.cut2 _ _ c.delta-delta.ensures c.if-not-delta-best.true

pub returns-then-not-passes : goal.returns-then-not-passes
returns-then-not-passes g c =
    stays_out _ _ c.args.cut1 c.args.cut2 _ (sym c.passes.ensures ∙ c.if-not-passes.true)

pub returns : goal.returns
returns g c =
    taken_up _ _ c.args.cut1 c.args.cut2 _ _ c.delta-delta.ensures c.if-not-delta-best.false (sym c.passes.ensures ∙ c.if-not-passes.false)
