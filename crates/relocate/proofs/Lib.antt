-- `Claimed`: demand 3.
pub mod Claimed
