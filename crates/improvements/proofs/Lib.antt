pub mod Improving
pub mod Claiming
