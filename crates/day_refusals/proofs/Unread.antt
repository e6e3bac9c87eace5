-- 'A value whose flag is off is never read': days that differ only in such values have the same refusal, since they meet the same tests.
use Prim.Native.Nat.{ℕ}
use mathlib.Core.Path.{◌≡◌}
use mathlib.Core.List.{List}
use lib.IntN.{ℤ}
use lib.Ieee.{Float}
use Rattle.day.specs.Day.{day_of}
use Rattle.day.specs.Unread.{SameColumns}
use Rattle.day.proofs.Unread.{lengths_same, locations_same, windows_same}
use Rattle.day_refusals.specs.Order.{contents_refusal, day_refusal}

-- the same refusal of the day
pub same_refusal : (flags : List ℕ) (ready due penalty ready' due' penalty' : List Float) → SameColumns flags ready due penalty ready' due' penalty'
    → (l : ℕ) (demand : List ℤ) (service distances times : List Float)
    → day_refusal (day_of l flags demand service ready due penalty distances times)
    ≡ day_refusal (day_of l flags demand service ready' due' penalty' distances times)
unfolding day_refusal contents_refusal
same_refusal flags ready due penalty ready' due' penalty' same l demand service distances times =
    rw (
      lengths_same flags ready due penalty ready' due' penalty' same l demand service distances times,
      locations_same flags ready due penalty ready' due' penalty' same l demand service,
      windows_same flags ready due penalty ready' due' penalty' same l,
    )
