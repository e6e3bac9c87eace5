-- `Reached`: the least of some costs, and what is known of it. `Shifted`: the costs of a changed list. `Cached`: the two tables.
pub mod Reached
pub mod Shifted
pub mod Cached
