pub mod Soft
pub mod Pass
