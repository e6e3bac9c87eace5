-- Or-opt as its functions state it: where a run stands, which move can be made, and where it leads. For src/. Assumes nothing.
use Rattle.std.proofs.Math.Option as maybe
use Rattle.std.specs.Prelude.{List, ℕ, suc, length, Option}
use Rattle.labels.specs.Columns.{Columns}
use Rattle.descent.specs.Order.{range}
use Rattle.descent.specs.Search.{Sweep}
use Rattle.descent.specs.Within.{put_before_lem}
use Rattle.engine.specs.Engine.{Leads}
use Rattle.segments.specs.declared.Terms.{Terms}
use Rattle.segments.specs.declared.Change.{Change}
use Rattle.segments.specs.Segments.{Asked, Fits, placed}

-- the list, and the piece lengths still ahead in this sweep
abbrev pub at : List ℕ → ℕ → Sweep (List ℕ) ℕ
at xs ahead = record { now = xs; ahead = range ahead 4 }

-- a move that can be made
abbrev pub Apt : Columns → Terms → List ℕ → Change → Type 0
Apt c t xs m = Asked c t xs × Fits (length xs) (placed m)

-- where a move leads: the list with the piece moved, and the next piece length ahead
abbrev pub after : List ℕ → Change → Sweep (List ℕ) ℕ
after xs m = at (put_before_lem xs (placed m)) (suc m.size)

-- a search that leaves the list as it is and should lead to `next` has found this
abbrev pub Led : maybe.Option (Sweep (List ℕ) ℕ) → Columns → Terms → List ℕ → ℕ → Option Change → Type 0
Led next c t xs ahead = Leads next (at xs ahead) (at xs ahead) (Apt c t xs) (λ m. at xs ahead) (after xs)
