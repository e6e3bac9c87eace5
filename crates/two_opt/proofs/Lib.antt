pub mod Turning
pub mod Claimed
