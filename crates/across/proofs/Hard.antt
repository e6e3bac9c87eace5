-- Without a soft window a run across lists is the engine's of demand 3: the test for soft windows is the definition's first. Assumes nothing.
use mathlib.Core.Path.{◌≡◌}
use mathlib.Core.Bool.{false}
use mathlib.Core.List.{List}
use Prim.Native.Nat.{ℕ}
use Rattle.day.specs.Customer.{has_soft_windows}
use Rattle.across.specs.Across.{Setting, hard_exchange, exchange_ran, hard_relocate, relocate_ran}

pub exchange_hard : (s : Setting) (limit : ℕ) (ls : List (List ℕ)) → has_soft_windows s.columns.flags ≡ false
    → exchange_ran s limit ls ≡ hard_exchange s limit ls
unfolding exchange_ran
exchange_hard s limit ls none = rw none

pub relocate_hard : (s : Setting) (limit : ℕ) (ls : List (List ℕ)) → has_soft_windows s.columns.flags ≡ false
    → relocate_ran s limit ls ≡ hard_relocate s limit ls
unfolding relocate_ran
relocate_hard s limit ls none = rw none
