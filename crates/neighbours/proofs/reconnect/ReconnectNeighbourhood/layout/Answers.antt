-- `Reconnect::layout`: the list cut behind i, j and k, and reconnected in the way of the number.
use mathlib.Core.Path.{sym, subst}
use Prim.Native.Nat.{◌+◌}
use native.Mathlib.Omega.{arith}
use Rattle.descent.specs.Permitted.{Arrangement}
use Rattle.layouts.specs.Layout.{layout}
use Rattle.neighbours.specs.Places.{Inside, Lays}
use Rattle.neighbours.specs.Numbers.{reconnected}
use Rattle.neighbours.proofs.Layouts.{lays_reconnected}
use Rattle.neighbours.proofs.reconnect.ReconnectNeighbourhood.layout.Goals as goal

pub nth_way-way-requires : goal.nth_way-way-requires
unfolding Inside
nth_way-way-requires c =
    c.requires.1.3

pub reconnection-requires : goal.reconnection-requires
unfolding Inside
reconnection-requires c =
    (omega arith, omega arith, omega arith)

pub returns : goal.returns
returns c =
    let at = c.args.at in
    rw c.reconnection.ensures
    (subst (λ (way : Arrangement). Lays c.args.n (reconnected at) (layout (at.i + 1) (at.j + 1) (at.k + 1) way)) (sym c.nth_way-way.ensures)
    (lays_reconnected _ _ _ _ _ c.requires.1))
