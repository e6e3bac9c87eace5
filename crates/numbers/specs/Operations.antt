-- The operations of f64 as definitions write them, each with its one rounding to nearest (IEEE 754). For every crate that states bits. Assumes nothing.
use Rattle.std.specs.Prelude.{false, pos, Float}
use Rattle.std.specs.Float.{fin, binary64}
use Rattle.std.specs.Float.Ieee.{add, sub, mul, div}

infixl 20 ◌⊕◌
infixl 20 ◌⊖◌
infixl 30 ◌⊗◌
infixl 30 ◌⊘◌
-- x + y
abbrev pub ◌⊕◌ : Float → Float → Float
x ⊕ y = add binary64 x y

-- x - y
abbrev pub ◌⊖◌ : Float → Float → Float
x ⊖ y = sub binary64 x y

-- x * y
abbrev pub ◌⊗◌ : Float → Float → Float
x ⊗ y = mul binary64 x y

-- x / y
abbrev pub ◌⊘◌ : Float → Float → Float
x ⊘ y = div binary64 x y

-- 0.0
abbrev pub zero64 : Float
zero64 = fin false 0 (pos 0)
