-- The kinds of moves between two lists, one after another. For src/. Assumes nothing.
use Rattle.std.specs.Prelude.{cond, ℕ, eqb, ltb}
use Rattle.cross_kinds.specs.declared.kind.Kind.{Kind}
use Rattle.cross_kinds.specs.declared.kind.Kind.TheVariants.{Relocation, Swap, Tails}

-- the kinds in the order of the search
unfoldable pub kind_at : ℕ → Kind
kind_at n = cond (eqb n 0) Relocation (cond (eqb n 1) Swap Tails)

-- how many are tried: swaps and tail exchanges 'each pair of routes once'
unfoldable pub kinds_of : ℕ → ℕ → ℕ
kinds_of one other = cond (ltb one other) 3 1
