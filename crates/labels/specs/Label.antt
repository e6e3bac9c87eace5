-- The label of evaluation/schedule.rs: how a stop carries it on, and which of two wins. Assumes nothing.
use Rattle.std.specs.Prelude.{ℕ, Bool, cond, ◌&&◌, ◌||◌, Float, Option, Some, None}
use Rattle.std.specs.Float.Ieee.{lt, eq}
use Rattle.numbers.specs.Operations.{◌⊕◌, ◌⊗◌, zero64}
use Rattle.numbers.specs.Total.{larger}
use Rattle.day.specs.Customer.{is_violated, waiting_time, lateness_at}
use Rattle.day.specs.declared.customer.Window.{Window}
use Rattle.day.specs.declared.customer.Window.TheVariants.{Open, Hard, Soft}
use Rattle.day.specs.declared.vehicle.VehicleBreak.{VehicleBreak}
use Rattle.labels.specs.declared.stop.Stop.{Stop}
use Rattle.labels.specs.declared.label.Label.{Label}

-- the van at the depot at time 0
unfoldable pub at_start : Label
at_start = record { time = zero64; lateness = zero64; lateness_cost = zero64; position = 0; start = zero64 }

-- a service that begins in time, done
unfoldable pub in_time : Label → Float → Float → Option Label
in_time label begin service =
    Some (record {
      time = begin ⊕ service;
      lateness = label.lateness;
      lateness_cost = label.lateness_cost;
      position = label.position;
      start = label.start;
    })

-- a service that begins late, done: its lateness counts, and the penalty times that
unfoldable pub too_late : Label → Float → Float → Float → Float → Option Label
too_late label begin service late penalty =
    Some (record {
      time = begin ⊕ service;
      lateness = label.lateness ⊕ late;
      lateness_cost = label.lateness_cost ⊕ penalty ⊗ late;
      position = label.position;
      start = label.start;
    })

-- 01, the window: service starts at the arrival plus the waiting, two roundings; a late one fails at a hard window, and costs at a soft one
unfoldable pub served_in : Window → Label → Float → Float → Option Label
served_in Open label ready service = in_time label ready service
served_in (Hard span) label ready service = cond (is_violated span ready) None (in_time label (ready ⊕ waiting_time span ready) service)
served_in (Soft span penalty) label ready service =
    cond (is_violated span ready)
    (too_late label (ready ⊕ waiting_time span ready) service (lateness_at span ready) penalty)
    (in_time label (ready ⊕ waiting_time span ready) service)

-- one stop without a break: the travel to it, the wait and the service
unfoldable pub served : Label → Float → Stop → Option Label
served label travel stop = served_in stop.window label (label.time ⊕ travel) stop.service

-- 01, 5: 'A break starts at a stop, on arrival or at earliest, whichever is later'
abbrev pub break_start : VehicleBreak → Float → Float
break_start rest arrival = larger arrival rest.earliest

-- the label that takes its break at this position and time
unfoldable pub resting : Label → ℕ → Float → Label
resting label index start =
    record { time = label.time; lateness = label.lateness; lateness_cost = label.lateness_cost; position = index; start = start }

-- one stop with the break before it, `index` being its position: the travel to it, the break, 'never after latest', the wait and the service
unfoldable pub served_rested : Label → Float → Stop → ℕ → VehicleBreak → Option Label
served_rested label travel stop index rest =
    cond (lt rest.latest (break_start rest (label.time ⊕ travel)))
    None
    (served_in stop.window
    (resting label index (break_start rest (label.time ⊕ travel)))
    (break_start rest (label.time ⊕ travel) ⊕ rest.duration)
    stop.service)

-- one stop more, where the ones before were reached
unfoldable pub served_from : Option Label → Float → Stop → Option Label
served_from None travel stop = None
served_from (Some label) travel stop = served label travel stop

-- one stop more with the break before it, where the ones before were reached
unfoldable pub served_rested_from : Option Label → Float → Stop → ℕ → VehicleBreak → Option Label
served_rested_from None travel stop index rest = None
served_rested_from (Some label) travel stop index rest = served_rested label travel stop index rest

-- the label here is the lesser (time, lateness cost)
unfoldable pub is_earlier : Label → Label → Bool
is_earlier carried here =
    lt here.time carried.time || (eq here.time carried.time && lt here.lateness_cost carried.lateness_cost)

-- 01, 5: 'Of two labels the lesser (time, lateness cost) wins, ties to the one carried'
unfoldable pub earlier_of : Option Label → Option Label → Option Label
earlier_of None here = here
earlier_of (Some a) None = Some a
earlier_of (Some a) (Some b) = cond (is_earlier a b) (Some b) (Some a)
