-- A candidate with a break to take, driven from a head. For src/. Assumes nothing.
use Rattle.std.specs.Prelude.{ℕ, List, length}
use Rattle.labels.specs.Columns.{Columns}
use Rattle.broken_heads.specs.Head.{Drove}
use Rattle.broken_heads.specs.declared.BrokenHead.{BrokenHead}
use Rattle.cross_broken_drives.specs.declared.Drive.{Drive}

-- the list is driven from a start on: up to `from`, and up to its end
pub record Driven (c : Columns) (start : BrokenHead) (whole : List ℕ) (driven from : ℕ) (drive : Drive) : Type 0 where
  pub to_head : Drove c start whole driven from drive.head
  pub to_end : Drove c start whole driven (length whole) drive.end
