-- What a candidate's price asks of the van where it is driven from a head. For src/. Assumes nothing.
use Rattle.std.specs.Prelude.{◌≡◌, None}
use Rattle.day.specs.Vehicle.{limits_of}
use Rattle.day.specs.declared.vehicle.Van.{Van}
use Rattle.day.specs.declared.vehicle.RouteLimits.{RouteLimits}

-- the van's limits, and no break among them
pub record Unbroken (van : Van) (limits : RouteLimits) : Type 0 where
  pub limits_are : limits ≡ limits_of van
  pub no_break : limits.rest ≡ None
