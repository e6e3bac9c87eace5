-- The legs that a table of the program says: for contracts. Assumes nothing.
use Rattle.std.specs.Prelude.{ℕ, Float}
use Rattle.day.specs.Matrix.{leg}
use Rattle.day.specs.declared.matrix.Matrix.{Matrix}

-- the leg from a location to a location
abbrev pub leg_of : Matrix → ℕ → ℕ → Float
leg_of m = leg m.size m.entries.now
