-- `best_exchange`: both lists' loads are worked out first.
use native.Mathlib.Omega.{arith}
use Rattle.tails.proofs.best_exchange.Goals as goal

pub load_of-load1-requires : goal.load_of-load1-requires
load_of-load1-requires g c =
    let visits = c.args.two.now.visits in
    (c.requires.loaded, record { few = omega (arith, visits.few); below = visits.one_below })

pub load_of-load2-requires : goal.load_of-load2-requires
load_of-load2-requires g c =
    let visits = c.args.two.now.visits in
    (c.requires.loaded, record { few = omega (arith, visits.few); below = visits.other_below })

pub best_loaded-requires-clause-load1 : goal.best_loaded-requires-clause-load1
best_loaded-requires-clause-load1 g c =
    c.load_of-load1.ensures.0

pub best_loaded-requires-clause-load2 : goal.best_loaded-requires-clause-load2
best_loaded-requires-clause-load2 g c =
    c.load_of-load2.ensures.0
