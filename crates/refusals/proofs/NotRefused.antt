-- An input of an entry that asks for a list, where it is not refused: what it tells, and what the entry may call. It is what each part of the refusal tells.
use Rattle.std.specs.Prelude.{ℕ, ◌<◌, ◌≡◌, List, length}
use Rattle.day.specs.Day.{Day}
use Rattle.day.specs.Fine.{Shaped}
use Rattle.day.specs.Matrix.{Square}
use Rattle.day.specs.declared.vehicle.Van.{Van}
use Rattle.lists.specs.Table.{Laid, list_of}
use Rattle.list_refusals.proofs.Fine.{lists_fine}
use Rattle.labels.specs.Columns.{Formed, Visits, columns_of, formed}
use Rattle.refusals.specs.Refusal.{refusal, Fine, day_and_van, visits_fine}

-- an input that is not refused is fine
pub fine : (d : Day) (van : Van) (visits lengths : List ℕ) (list : ℕ) → refusal d van visits lengths list ≡ 0 → Fine d van visits lengths list
unfolding refusal
fine d van visits lengths list h =
    let f = day_and_van d van _ h in
    record { day = f.0; van_fine = f.1; depot = f.2; lists = lists_fine _ _ visits lengths list f.3 }

-- ---- what an entry that found no refusal may call

module _ (d : Day) (van : Van) (visits lengths : List ℕ) (list : ℕ) (none : refusal d van visits lengths list ≡ 0) where
  -- `lists::list_of`
  pub listed : Laid visits lengths × (list < length lengths)
  listed = let f = fine d van visits lengths list none in (f.lists.table.laid, f.lists.there)

  -- `Columns::of`
  pub shaped_day : Shaped d
  shaped_day = (fine d van visits lengths list none).day.shaped

  -- `evaluation::distance::route_distance`, of the part that is the list asked for
  pub drivable : (part : List ℕ) → part ≡ list_of visits lengths list → Square d.l d.distances × (van.depot < d.l) × Visits d.l part
  drivable part e =
      let f = fine d van visits lengths list none in
      (f.day.shaped.tables.of_distances, f.depot, rw e (visits_fine d van visits lengths list f))

  -- the checks of `evaluation::route`
  pub checkable : (part : List ℕ) → part ≡ list_of visits lengths list → Formed (columns_of d) × ((van.depot < d.l) × Visits d.l part)
  checkable part e =
      let f = fine d van visits lengths list none in
      (formed f.day.shaped, (f.depot, rw e (visits_fine d van visits lengths list f)))
