pub mod Ranges
pub mod Slices
