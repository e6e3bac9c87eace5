-- `serve_at`: one arm for each case of the window.
use Rattle.labels.specs.Label.{served_in}
use Rattle.labels.proofs.label.serve_at.Goals as goal

pub returns-in-Open : goal.returns-in-Open
unfolding served_in
returns-in-Open c =
    rw c.in-Open.is c.in_time.ensures

pub returns-in-Hard : goal.returns-in-Hard
returns-in-Hard c =
    rw c.in-Hard.is c.serve_hard.ensures

pub returns-in-Soft : goal.returns-in-Soft
returns-in-Soft c =
    rw c.in-Soft.is c.serve_soft.ensures
