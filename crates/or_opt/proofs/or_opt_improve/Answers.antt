-- `or_opt_improve`: the constants are those of the day and the van, and a run starts with nothing ahead, so that it is the definition's.
use mathlib.Core.Path.{ap, ◌∙◌}
use mathlib.Core.List.{List}
use Prim.Native.Nat.{ℕ}
use borrow.Author.Rules.{rules}
use Rattle.engine.specs.Engine.{OneList}
use Rattle.segments.specs.declared.Terms.{Terms}
use Rattle.numbers.specs.Floor.{gain_floor}
use Rattle.descent.specs.Search.{Sweep}
use Rattle.descent.specs.Engines.{run_of}
use Rattle.or_opt.proofs.or_opt_improve.Goals as goal

pub run-requires : goal.run-requires
run-requires c =
    record {
      formed = c.args.columns.now.formed;
      depot_there = c.requires.0;
      visits = c.requires.1;
      needed = c.route_checks_needed-needed.ensures;
      floor = c.gain_floor-floor.ensures.answer ∙ ap gain_floor c.scale.ensures;
    }

pub returns : goal.returns
unfolding run_of
returns c =
    let same = ap (λ (f : OneList Terms). f.list) c.run.ensures.same in
    let left = ap (λ (s : Sweep (List ℕ) ℕ). s.now) c.run.ensures.ended.0 in
    let ended = c.run.ensures.ended.1 in
    search rules
