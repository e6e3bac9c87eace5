pub mod Choosing
pub mod Judging
pub mod Gate
