pub mod Changes
pub mod Deltas
pub mod Judged
