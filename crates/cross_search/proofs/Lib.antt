pub mod Pairs
pub mod Choosing
pub mod Joining
pub mod Keeping
