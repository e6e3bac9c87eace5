-- A day's columns as they are read: what of a day they have.
use Rattle.std.specs.Prelude.{◌≡◌, ◌+◌, length}
use Rattle.arrayvec.specs.ArrayVec.{array_vec_len}
use Rattle.sample.specs.declared.columns.DayColumns.{DayColumns}
use Rattle.sample.specs.declared.layout.LocationBytes.{LocationBytes}

-- the size and the flags of a day, and no entry yet
pub record Unread (day : LocationBytes) (columns : DayColumns) : Type 0 where
  pub size : columns.locations ≡ day.count
  pub flags : columns.flags.now ≡ day.flags.now
  pub demand : array_vec_len columns.demand ≡ 0
  pub service : array_vec_len columns.service ≡ 0
  pub ready : array_vec_len columns.ready ≡ 0
  pub due : array_vec_len columns.due ≡ 0
  pub penalty : array_vec_len columns.penalty ≡ 0
  pub distances : array_vec_len columns.distances ≡ 0
  pub times : array_vec_len columns.times ≡ 0

-- an entry more for each byte of the day
pub record Read (day : LocationBytes) (before after : DayColumns) : Type 0 where
  pub demand : array_vec_len after.demand ≡ array_vec_len before.demand + length day.demand.now
  pub service : array_vec_len after.service ≡ array_vec_len before.service + length day.service.now
  pub ready : array_vec_len after.ready ≡ array_vec_len before.ready + length day.ready.now
  pub due : array_vec_len after.due ≡ array_vec_len before.due + length day.due.now
  pub penalty : array_vec_len after.penalty ≡ array_vec_len before.penalty + length day.penalty.now
  pub distances : array_vec_len after.distances ≡ array_vec_len before.distances + length day.distances.now
  pub times : array_vec_len after.times ≡ array_vec_len before.times + length day.times.now
