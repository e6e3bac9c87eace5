pub mod Total
pub mod Edits
