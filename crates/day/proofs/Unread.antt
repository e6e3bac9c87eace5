-- 'A value whose flag is off is never read': days and vans that differ only in such values meet the same tests and have the same windows and limits,
-- because each definition asks the flag before the value.
use Prim.Native.Nat.{ℕ, zero, suc}
use mathlib.Core.Path.{◌≡◌, refl, ap}
use mathlib.Core.List.{List}
use mathlib.Core.Bool.{Bool, true, false, not, cond, ◌&&◌, ◌||◌}
use lib.IntN.{ℤ}
use lib.ListN.{get_or}
use lib.Ieee.{Float}
use Rattle.std.specs.Prelude.{Some, None}
use Rattle.numbers.specs.Plain.{plain}
use Rattle.tests.specs.All.{all_below}
use Rattle.day.specs.Day.{day_of, bit0, bit1, bit2}
use Rattle.day.specs.Customer.{window_at}
use Rattle.day.specs.Vehicle.{break_of, limits_of}
use Rattle.day.specs.Refusal.{lengths_ok, present_ok, penalty_ok, location_ok, locations_ok, span_ok, window_ok, windows_ok, break_ok, limits_ok}
use Rattle.day.specs.Unread.{SameColumns, SameVan}
use Rattle.day.specs.declared.vehicle.Van.{Van}

-- a test of every number is the same where it is the same of each
all_same : (p q : ℕ → Bool) → ((k : ℕ) → p k ≡ q k) → (n : ℕ) → all_below p n ≡ all_below q n
unfolding all_below
all_same p q h zero = refl
all_same p q h (suc n) = rw (all_same p q h n, h n)

-- what is asked only behind a flag is the same where the values agree behind it
guarded : {A B : Type 0} (f : A → B) (off : B) (flag : Bool) (x y : A) → (flag ≡ true → x ≡ y) → cond flag (f x) off ≡ cond flag (f y) off
guarded f off true x y h = ap f (h refl)
guarded f off false x y h = refl

present : (flag : Bool) (x y : Bool) → (flag ≡ true → x ≡ y) → not flag || x ≡ not flag || y
present true x y h = h refl
present false x y h = refl

module _ (flags : List ℕ) (ready due penalty ready' due' penalty' : List Float) (same : SameColumns flags ready due penalty ready' due' penalty') where
  penalty_same : (k : ℕ) → penalty_ok flags penalty k ≡ penalty_ok flags penalty' k
  unfolding penalty_ok present_ok
  penalty_same k = present (bit2 (get_or flags k 0)) _ _ (λ on. ap plain (same.penalty_agrees.entries k on))

  window_same : (k : ℕ) → window_ok flags ready due k ≡ window_ok flags ready' due' k
  unfolding window_ok
  window_same k = present (bit1 (get_or flags k 0)) _ _ (λ on. rw (same.ready_agrees.entries k on, same.due_agrees.entries k on))

  -- the same test of the locations
  pub locations_same : (l : ℕ) (demand : List ℤ) (service : List Float)
      → locations_ok l flags demand service penalty ≡ locations_ok l flags demand service penalty'
  unfolding locations_ok location_ok
  locations_same l demand service = all_same _ _ (λ k. rw (penalty_same k)) l

  -- the same test of the windows
  pub windows_same : (l : ℕ) → windows_ok l flags ready due ≡ windows_ok l flags ready' due'
  unfolding windows_ok
  windows_same l = all_same _ _ window_same l

  module _ (l : ℕ) (demand : List ℤ) (service distances times : List Float) where
    -- the same test of the lengths
    pub lengths_same : lengths_ok (day_of l flags demand service ready due penalty distances times)
        ≡ lengths_ok (day_of l flags demand service ready' due' penalty' distances times)
    unfolding lengths_ok
    lengths_same = rw (same.ready_agrees.lengths, same.due_agrees.lengths, same.penalty_agrees.lengths)

  -- the same window of every location
  pub same_window : (k : ℕ) → window_at flags ready due penalty k ≡ window_at flags ready' due' penalty' k
  unfolding window_at
  same_window k = go (bit1 (get_or flags k 0)) (bit2 (get_or flags k 0)) refl refl
    where
      go : (a b : Bool) → bit1 (get_or flags k 0) ≡ a → bit2 (get_or flags k 0) ≡ b → window_at flags ready due penalty k ≡ window_at flags ready' due' penalty' k
      go true true p q = rw (p, q, same.ready_agrees.entries k p, same.due_agrees.entries k p, same.penalty_agrees.entries k q)
      go true false p q = rw (p, q, same.ready_agrees.entries k p, same.due_agrees.entries k p)
      go false b p q = rw p

module _ (v w : Van) (same : SameVan v w) where
  -- the same test of the limits and the break
  pub limits_same : limits_ok v ≡ limits_ok w
  unfolding limits_ok present_ok break_ok
  limits_same =
      rw (
        present (bit0 v.flags) _ _ (λ on. ap plain (same.max_distance on)),
        present (bit1 v.flags) _ _ (λ on. ap plain (same.max_duration on)),
        present (bit2 v.flags) (span_ok v.earliest v.latest && plain v.duration) (span_ok w.earliest w.latest && plain w.duration)
            (λ on. rw (same.earliest on, same.latest on, same.duration on)),
        same.flags,
      )

  break_same : bit2 v.flags ≡ true → break_of v ≡ break_of w
  break_same on = rw (same.earliest on, same.latest on, same.duration on)

  -- the same limits
  pub same_limits : limits_of v ≡ limits_of w
  unfolding limits_of
  same_limits =
      rw (
        guarded Some None (bit0 v.flags) v.max_distance w.max_distance same.max_distance,
        guarded Some None (bit1 v.flags) v.max_duration w.max_duration same.max_duration,
        guarded Some None (bit2 v.flags) (break_of v) (break_of w) break_same,
        same.flags,
      )
