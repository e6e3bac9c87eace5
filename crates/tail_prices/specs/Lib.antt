pub mod Tails
pub mod Changes
