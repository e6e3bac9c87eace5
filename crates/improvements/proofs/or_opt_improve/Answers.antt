-- `or_opt_improve`: what the three entries share, and demand 3 of it.
use Rattle.improvements.proofs.Claiming.{or_opt_claimed}
use Rattle.improvements.proofs.Improving.{improve_same}
use Rattle.improvements.proofs.or_opt_improve.Goals as goal

pub returns : goal.returns
returns c =
    record {
      answer = (
        c.improve_list.ensures.0,
        c.improve_list.ensures.1,
        rw c.improve_list.ensures.1
            (improve_same _ _ _ _ _ _ _),
        rw (c.improve_list.ensures.0, c.improve_list.ensures.1) (or_opt_claimed _ _ _ _ _ _),
      );
    }
