-- `forget`: an unknown figure is not a number.
use Rattle.insertions.proofs.forget.Goals as goal

pub returns : goal.returns
returns c =
    cc
