-- The kinds of run of the stored sample, by their tags. Assumes nothing.
use Rattle.std.specs.Prelude.{ℕ}
use Rattle.sample.specs.declared.kind.Kind.{Kind}
use Rattle.sample.specs.declared.kind.Kind.TheVariants.{Feasible, Eval, Schedule, Distance, TwoOpt, OrOpt, ThreeOpt, Relocate, RelocateWithoutPruning, Exchange, Cross}

-- the byte that a run of the kind begins with
abbrev pub tag : Kind → ℕ
tag Feasible = 1
tag Eval = 2
tag Schedule = 3
tag Distance = 4
tag TwoOpt = 16
tag OrOpt = 17
tag ThreeOpt = 18
tag Relocate = 19
tag RelocateWithoutPruning = 20
tag Exchange = 21
tag Cross = 22
