pub mod Between
pub mod Parts
