-- `two_opt_improve`: the constants are those of the day and the van, and a run starts with nothing ahead, so that it is the definition's.
use borrow.Author.Rules.{rules}
use native.Mathlib.Omega.{arith}
use mathlib.Core.Path.{ap, ◌∙◌}
use mathlib.Core.List.{List}
use Prim.Native.Nat.{ℕ}
use Rattle.descent.specs.Search.{Sweep}
use Rattle.descent.specs.Within.{Reversal}
use Rattle.descent.specs.Engines.{run_of}
use Rattle.engine.specs.Engine.{OneList}
use Rattle.reversal_places.specs.declared.Terms.{Terms}
use Rattle.reversals.specs.Reversals.{next_turn}
use Rattle.reversals.proofs.Places.{none_ahead}
use Rattle.two_opt.proofs.Turning.{at_start}
use Rattle.two_opt.proofs.two_opt_improve.Goals as goal

pub overflow_add-ahead : goal.overflow_add-ahead
overflow_add-ahead c =
    omega (arith, c.requires.depot_lt_l.1.few)

pub run-requires : goal.run-requires
run-requires c = (
  record {
    formed = c.args.columns.now.formed;
    depot_there = c.requires.depot_lt_l.0;
    plain = c.requires.distances_value;
    floor = rw (c.gain_floor-floor.ensures.answer, c.scale.ensures);
    symmetric = c.is_symmetric-symmetric.ensures ∙ rw (c.matrix.ensures.size, c.matrix.ensures.entries);
    needed = c.route_checks_needed-needed.ensures;
  },
  c.requires.depot_lt_l.1,
  none_ahead _,
)

pub returns : goal.returns
unfolding run_of next_turn
returns c =
    let ran = rw (at_start c.args.list.now) at c.run.ensures.ended in
    let same = ap (λ (f : OneList Terms). f.list) c.run.ensures.same in
    let left = ap (λ (s : Sweep (List ℕ) Reversal). s.now) ran.0 in
    let ended = ran.1 in
    search rules
