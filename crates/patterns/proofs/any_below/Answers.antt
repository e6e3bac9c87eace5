-- `any_below`: seven changes against the bar, joined as the definition joins them.
use Rattle.patterns.specs.Below.{any_below}
use Rattle.patterns.proofs.any_below.Goals as goal

pub returns : goal.returns
unfolding any_below
returns c =
    rw (
      c.pattern_change-7.ensures,
      c.pattern_change-6.ensures,
      c.pattern_change-5.ensures,
      c.pattern_change-4.ensures,
      c.pattern_change-3.ensures,
      c.pattern_change-2.ensures,
      c.pattern_change.ensures,
    )
