pub mod Sizes
pub mod Claimed
