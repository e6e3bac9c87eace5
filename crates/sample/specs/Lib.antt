pub mod Kind
pub mod Padded
pub mod Columns
