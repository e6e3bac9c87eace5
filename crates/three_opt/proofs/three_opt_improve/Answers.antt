-- `three_opt_improve`: a short list has no places; else what is worked out before the first move is right, and the run is the definition's.
use borrow.Author.Rules.{rules}
use mathlib.Core.Path.{ap, ◌∙◌}
use mathlib.Core.List.{List}
use Prim.Native.Nat.{ℕ}
use native.Mathlib.Omega.{arith}
use Rattle.numbers.specs.Floor.{gain_floor}
use Rattle.descent.specs.Search.{Sweep}
use Rattle.descent.specs.Within.{Cut}
use Rattle.descent.specs.Engines.{run_of}
use Rattle.engine.specs.Engine.{OneList}
use Rattle.patterns.specs.Patterns.{search_of, judge_of}
use Rattle.patterns.specs.declared.Setup.{Setup}
use Rattle.three_opt.proofs.Sweeping.{few-settled}
use Rattle.three_opt.proofs.three_opt_improve.Goals as goal

pub returns-then-list-lt4 : goal.returns-then-list-lt4
returns-then-list-lt4 c =
    few-settled _ _ _ _ _ c.if-list-lt4.true

pub run-requires : goal.run-requires
run-requires c =
    record {
      prepared = record {
        formed = c.args.columns.now.formed;
        depot_there = c.requires.depot_lt_l.0;
        floor = c.gain_floor-floor.ensures.answer ∙ ap gain_floor c.scale.ensures;
        marked = record { right = c.is_symmetric-symmetric.ensures ∙ rw (c.matrix.ensures.size, c.matrix.ensures.entries); plain = c.requires.distances_value };
        needed = c.route_checks_needed-needed.ensures;
      };
      visits = c.requires.depot_lt_l.1;
      room = omega (arith, c.requires.depot_lt_l.1.few);
      four = c.if-list-lt4.false;
    }

pub returns : goal.returns
unfolding run_of search_of judge_of
returns c =
    let same = ap (λ (f : OneList Setup). f.list) c.run.ensures.same in
    let left = ap (λ (s : Sweep (List ℕ) Cut). s.now) c.run.ensures.ended.0 in
    let ended = c.run.ensures.ended.1 in
    search rules
