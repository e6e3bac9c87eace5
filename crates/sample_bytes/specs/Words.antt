-- What the bytes of the stored sample stand for, by the day's table of eight bytes a word. Assumes nothing.
use Rattle.std.specs.Prelude.{ℕ, ◌+◌, ◌-◌, Bool, ltb, cond, not, pos, List, length, slice_get, Option, Some, None, Float, from_bits}
use Rattle.std.specs.Float.{binary64}
use Rattle.std.specs.Float.Ieee.{nan_bits, of_int}
use Rattle.std.specs.Int.{w64, from_le_bytes}

-- whether a byte stands for something: itself below 128, and else an entry of the table
unfoldable pub is_known : List (List ℕ) → ℕ → Bool
is_known words byte = ltb byte (128 + length words)

-- the number of eight bytes, the lowest first, and 0 where there are none
unfoldable pub word_or_zero : Option (List ℕ) → ℕ
word_or_zero None = 0
word_or_zero (Some word) = from_le_bytes w64 word

-- whether a word isn't a NaN's
unfoldable pub is_number : List ℕ → Bool
is_number word = not (nan_bits binary64 (from_le_bytes w64 word))

-- what a byte stands for, 0 where that is nothing
unfoldable pub value : List (List ℕ) → ℕ → ℕ
value words byte = cond (ltb byte 128) byte (word_or_zero (slice_get words (byte - 128)))

-- the float of a word, 0 where it would be a NaN
unfoldable pub float : ℕ → Float
float bits = cond (nan_bits binary64 bits) (from_bits binary64 0) (from_bits binary64 bits)

-- what a byte stands for, as a number
unfoldable pub number : List (List ℕ) → ℕ → Float
number words byte = cond (ltb byte 128) (of_int binary64 (pos byte)) (float (value words byte))
