-- When a change counts as a gain: for every engine. 01, Modules, 2 (`local_search/mod.rs`).
use Rattle.std.specs.Prelude.{◌≡◌, Bool, ◌*◌, ◌≤◌, T, Float}
use Rattle.std.specs.Float.{binary64}
use Rattle.std.specs.Float.Ieee.{of_bits, mul, sub, neg, lt}
use Rattle.std.specs.Float.Ieee.Scale.{finite}
use Rattle.std.specs.Float.Ieee.Positive.{den}
use Rattle.numbers.specs.Value.{plus, less}

-- the nearest f64 to 1e-12
abbrev pub tiny : Float
tiny = of_bits binary64 0x3d71_9799_812d_ea11

-- 01, Modules, 2: 'floor = 1e-12 times `scale`, one rounding'; scale is the largest distance
unfoldable pub gain_floor : Float → Float
gain_floor scale = mul binary64 tiny scale

-- 01, Modules, 2: 'A gain counts if delta is strictly below minus the floor'
abbrev pub counts : Float → Float → Bool
counts delta floor = lt delta (neg floor)

-- 01, Modules, 2: 'in `soft::improve` instead if the new cost is strictly below the rounded cost minus floor'
abbrev pub counts_soft : Float → Float → Float → Bool
counts_soft new cost floor = lt new (sub binary64 cost floor)

-- a floor that hides no whole change: 0 <= x <= 1/2
pub record Slight (x : Float) : Type 0 where
  pub is_finite : T (finite x)
  pub not_below : less x ≡ 0
  pub half : plus x * 2 ≤ den x
