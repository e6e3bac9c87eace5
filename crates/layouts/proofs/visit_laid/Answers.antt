-- `visit_laid`: A and D stand where they stood; B and C are read in the order and the direction that they have.
use mathlib.Core.Path.{◌∙◌}
use Rattle.layouts.proofs.Layouts.{read_head, read_tail, read_B, read_C, read_C-first, read_B_second}
use Rattle.layouts.proofs.visit_laid.Goals as goal

pub returns-then-k-p : goal.returns-then-k-p
returns-then-k-p c =
    c.visit_at.ensures ∙ read_head c.args.list.now c.args.p c.args.k c.requires.0 c.if-k-p.true

pub returns-then-p-k : goal.returns-then-p-k
returns-then-p-k c =
    c.visit_at-then-p-k.ensures ∙ read_tail c.args.list.now c.args.p c.args.k c.requires.0 c.if-p-k.true

pub returns-then-k-middle : goal.returns-then-k-middle
returns-then-k-middle c =
    c.visit_of_stretch.ensures ∙ read_C-first c.args.list.now c.args.p c.args.k c.requires.0 c.if-p.true
    c.if-k-p.false c.if-k-middle.true

pub returns-then-p : goal.returns-then-p
returns-then-p c =
    c.visit_of_stretch-then-p.ensures ∙ read_B_second c.args.list.now c.args.p c.args.k c.requires.0 c.if-p.true
    c.if-k-middle.false c.if-p-k.false

pub returns-then-k-p-2 : goal.returns-then-k-p-2
returns-then-k-p-2 c =
    c.visit_of_stretch-then-k-p-2.ensures ∙ read_B c.args.list.now c.args.p c.args.k c.requires.0 c.if-p.false
    c.if-k-p.false c.if-k-p-2.true

pub returns : goal.returns
returns c =
    c.visit_of_stretch-2.ensures ∙ read_C c.args.list.now c.args.p c.args.k c.requires.0 c.if-p.false
    c.if-k-p-2.false c.if-p-k.false
