-- 01: 'A value whose flag is off is never read.' Two days, or two vans, that differ only in such values. For the laws of proofs/Unread.antt. Assumes nothing.
use Rattle.std.specs.Prelude.{ℕ, ◌≡◌, List, true, length, get_or, Float}
use Rattle.std.specs.Float.{nan}
use Rattle.day.specs.Day.{bit0, bit1, bit2}
use Rattle.day.specs.declared.vehicle.Van.{Van}

-- two columns of one length that agree wherever a bit of the flags is on
pub record Agree (bit : ℕ → Type 0) (column other : List Float) : Type 0 where
  pub lengths : length column ≡ length other
  pub entries : (k : ℕ) → bit k → get_or column k nan ≡ get_or other k nan

-- the columns that flags guard: ready and due where bit 1 is on, penalty where bit 2 is
pub record SameColumns (flags : List ℕ) (ready due penalty ready' due' penalty' : List Float) : Type 0 where
  pub ready_agrees : Agree (λ k. bit1 (get_or flags k 0) ≡ true) ready ready'
  pub due_agrees : Agree (λ k. bit1 (get_or flags k 0) ≡ true) due due'
  pub penalty_agrees : Agree (λ k. bit2 (get_or flags k 0) ≡ true) penalty penalty'

-- two vans that agree in all that is always read, and in the rest where its flag is on
pub record SameVan (v w : Van) : Type 0 where
  pub id : v.id ≡ w.id
  pub depot : v.depot ≡ w.depot
  pub capacity : v.capacity ≡ w.capacity
  pub cost_per_distance : v.cost_per_distance ≡ w.cost_per_distance
  pub fixed_cost : v.fixed_cost ≡ w.fixed_cost
  pub flags : v.flags ≡ w.flags
  pub max_distance : bit0 v.flags ≡ true → v.max_distance ≡ w.max_distance
  pub max_duration : bit1 v.flags ≡ true → v.max_duration ≡ w.max_duration
  pub earliest : bit2 v.flags ≡ true → v.earliest ≡ w.earliest
  pub latest : bit2 v.flags ≡ true → v.latest ≡ w.latest
  pub duration : bit2 v.flags ≡ true → v.duration ≡ w.duration
