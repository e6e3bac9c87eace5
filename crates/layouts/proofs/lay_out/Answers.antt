-- `lay_out`: four appends, in the order of the arrangement, the first without the visits before the place. `search` finds that each part still fits.
use native.Mathlib.Omega.{arith}
use mathlib.Core.Path.{◌≡◌}
use Prim.Native.Nat.{◌-◌}
use lib.ListN.{length}
use Rattle.layouts.proofs.Layouts.{laid_straight, laid-exchanged}
use Rattle.layouts.proofs.lay_out.Goals as goal

pub returns-then-p : goal.returns-then-p
returns-then-p c =
    let whole : c.append_stretch.result ≡ length c.args.list.now - c.args.from =
    omega (arith, c.requires.cut_in.1, c.requires.cut_in.0.b_c, c.requires.cut_in.0.c_d, c.requires.cut_in.0.d_n, c.append_stretch-a_end.ensures.value, c.append_piece-c_end.ensures.value, c.append_piece-b_end.ensures.value, c.append_stretch.ensures.value) in
    laid-exchanged c.args.from c.args.list.now c.args.p c.requires.cut_in.0 c.requires.cut_in.1 c.append_stretch-a_end.ensures.appended whole c.if-p.true c.append_piece-c_end.ensures.appended c.append_piece-b_end.ensures.appended c.append_stretch.ensures.appended

pub returns : goal.returns
returns c =
    let whole : c.append_stretch-2.result ≡ length c.args.list.now - c.args.from =
    omega (arith, c.requires.cut_in.1, c.requires.cut_in.0.b_c, c.requires.cut_in.0.c_d, c.requires.cut_in.0.d_n, c.append_stretch-a_end.ensures.value, c.append_piece-b_end-2.ensures.value, c.append_piece-c_end-2.ensures.value, c.append_stretch-2.ensures.value) in
    laid_straight c.args.from c.args.list.now c.args.p c.requires.cut_in.0 c.requires.cut_in.1 c.append_stretch-a_end.ensures.appended whole c.if-p.false c.append_piece-b_end-2.ensures.appended c.append_piece-c_end-2.ensures.appended c.append_stretch-2.ensures.appended
