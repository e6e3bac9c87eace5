-- `better_of`: each of its three ends is one of a scan's turn with one candidate more.
use Rattle.patterns.proofs.Judging.{listed, cut_placed, better_far, better_refused, better_taken}
use Rattle.patterns.proofs.better_of.Goals as goal

pub pattern_change-delta-requires : goal.pattern_change-delta-requires
pattern_change-delta-requires c =
    let placed = cut_placed _ _ _ _ _ _ _ _ c.requires.cut_value (listed c.requires.prepared c.requires.visits.0) in
    rw c.matrix.ensures.size placed

pub returns-then-not-delta-best : goal.returns-then-not-delta-best
returns-then-not-delta-best c =
    better_far c.args.setup _ _ _ _ _ _ _ _ c.requires.cut_value c.nth_way-way.ensures (rw (c.matrix.ensures.size, c.matrix.ensures.entries) at c.pattern_change-delta.ensures) c.requires.known
    c.if-not-delta-best.true

pub returns-then-not-candidate_passes : goal.returns-then-not-candidate_passes
returns-then-not-candidate_passes c =
    better_refused c.args.setup _ _ _ _ _ _ _ _ c.requires.cut_value c.nth_way-way.ensures (rw (c.matrix.ensures.size, c.matrix.ensures.entries) at c.pattern_change-delta.ensures) c.requires.known
    c.requires.prepared _ c.candidate_passes.ensures c.if-not-candidate_passes.true

pub returns : goal.returns
returns c =
    better_taken c.args.setup _ _ _ _ _ _ _ _ c.requires.cut_value c.nth_way-way.ensures (rw (c.matrix.ensures.size, c.matrix.ensures.entries) at c.pattern_change-delta.ensures) c.requires.known
    c.requires.prepared _ c.candidate_passes.ensures c.if-not-delta-best.false c.if-not-candidate_passes.false
