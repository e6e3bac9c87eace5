pub mod Offices
pub mod Moves
