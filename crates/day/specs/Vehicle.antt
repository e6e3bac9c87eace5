-- models/vehicle.rs and `RouteLimits` of evaluation/mod.rs: what a van costs and what it allows. Assumes nothing.
use Rattle.std.specs.Prelude.{Bool, true, cond, ◌&&◌, Float, Option, Some, None, is_none}
use Rattle.std.specs.Float.Ieee.{lt, le}
use Rattle.numbers.specs.Operations.{◌⊕◌, ◌⊗◌, ◌⊘◌, zero64}
use Rattle.day.specs.Day.{bit0, bit1, bit2}
use Rattle.day.specs.declared.vehicle.Van.{Van}
use Rattle.day.specs.declared.vehicle.VehicleBreak.{VehicleBreak}
use Rattle.day.specs.declared.vehicle.RouteLimits.{RouteLimits}

-- `route_cost`: fixed cost plus cost per distance times distance
unfoldable pub route_cost : Van → Float → Float
route_cost van distance = van.fixed_cost ⊕ van.cost_per_distance ⊗ distance

-- 01, module 4: '`fixed_cost_in_distance` (0 when the cost per distance is 0)'
unfoldable pub fixed_cost_in_distance : Van → Float
fixed_cost_in_distance van = cond (lt zero64 van.cost_per_distance) (van.fixed_cost ⊘ van.cost_per_distance) zero64

-- a limit that is there where its flag is on
abbrev pub limit_if : Bool → Float → Option Float
limit_if present most = cond present (Some most) None

-- the numbers of the van's break
abbrev pub break_of : Van → VehicleBreak
break_of van = record { earliest = van.earliest; latest = van.latest; duration = van.duration }

-- the van's break, where its flag is on
abbrev pub rest_of : Van → Option VehicleBreak
rest_of van = cond (bit2 van.flags) (Some (break_of van)) None

-- `RouteLimits::of`: 'flags (bit 0 distance limit, bit 1 duration limit, bit 2 break)'
unfoldable pub limits_of : Van → RouteLimits
limits_of van = record {
  max_distance = limit_if (bit0 van.flags) van.max_distance;
  max_duration = limit_if (bit1 van.flags) van.max_duration;
  rest = rest_of van;
}

-- at most the limit, where there is one
unfoldable pub keeps : Option Float → Float → Bool
keeps None x = true
keeps (Some most) x = le x most

-- `allow`: both limits are kept
unfoldable pub allows : RouteLimits → Float → Float → Bool
allows limits distance duration = keeps limits.max_distance distance && keeps limits.max_duration duration

-- `is_unlimited`: 'nothing is set: no limit, no break'
unfoldable pub is_unlimited : RouteLimits → Bool
is_unlimited limits = is_none limits.max_distance && (is_none limits.max_duration && is_none limits.rest)
