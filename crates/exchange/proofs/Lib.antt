pub mod Choosing
pub mod Claimed
