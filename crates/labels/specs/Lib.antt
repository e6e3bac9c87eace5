pub mod Columns
pub mod Lent
pub mod Walk
pub mod Label
