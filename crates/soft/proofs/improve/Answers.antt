-- `improve`: the floor is the table's, and a run starts with nothing ahead, so that it is the definition's.
use borrow.Author.Rules.{rules}
use mathlib.Core.Path.{◌≡◌, ap, ◌∙◌}
use mathlib.Core.List.{List}
use Prim.Native.Nat.{ℕ}
use Rattle.numbers.specs.Floor.{gain_floor}
use Rattle.day.specs.Matrix.{scale_of}
use Rattle.descent.specs.Search.{Sweep}
use Rattle.engine.specs.Engine.{OneList}
use Rattle.soft.specs.Soft.{soft_run}
use Rattle.soft.specs.declared.Terms.{Terms}
use Rattle.soft.proofs.improve.Goals as goal

pub returns : goal.returns
unfolding soft_run
returns g c =
    let floor : c.gain_floor-floor.result ≡ gain_floor (scale_of c.args.columns.now.distances.now) =
    c.gain_floor-floor.ensures.answer ∙ ap gain_floor c.scale.ensures in
    let ran = rw floor at c.run.ensures.ended in
    let same = ap (λ (f : OneList Terms). f.list) c.run.ensures.same in
    let left = ap (λ (s : Sweep (List ℕ) Unit). s.now) ran.0 in
    let ended = ran.1 in
    search rules
