-- The numbers that the program takes as they are: for every refusal of a distance, a time, a cost or a price.
use Rattle.std.specs.Prelude.{Bool, ◌&&◌, ◌*◌, ◌^◌, leb, Float}
use Rattle.std.specs.Float.Ieee.Scale.{finite}
use Rattle.std.specs.Float.Ieee.Positive.{num, den}
use Rattle.numbers.specs.Value.{clear}

-- 01, The day: 'An f64 is plain if its sign bit is clear and it is finite and at most 2^40'
unfoldable pub plain : Float → Bool
plain x = finite x && clear x && leb (num x) (2 ^ 40 * den x)
