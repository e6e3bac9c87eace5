pub mod Exchanging
pub mod Dropping
pub mod Making
