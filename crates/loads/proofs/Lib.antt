-- `Boxes`: demands and capacities are numbers from 0 on, and no load can wrap. `Visits`: lists of locations. `Tables`: the lists of a table that is held, and
-- what keeps it held.
pub mod Boxes
pub mod Visits
pub mod Tables
