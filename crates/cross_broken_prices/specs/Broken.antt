-- What a candidate's price asks of the van where it is driven from a head with a break to take. For src/. Assumes nothing.
use Rattle.std.specs.Prelude.{◌≡◌, Some}
use Rattle.day.specs.Vehicle.{limits_of}
use Rattle.day.specs.declared.vehicle.Van.{Van}
use Rattle.day.specs.declared.vehicle.RouteLimits.{RouteLimits}
use Rattle.day.specs.declared.vehicle.VehicleBreak.{VehicleBreak}

-- the van's limits, and this break among them
pub record Broken (van : Van) (limits : RouteLimits) (pause : VehicleBreak) : Type 0 where
  pub limits_are : limits ≡ limits_of van
  pub has_break : limits.rest ≡ Some pause
