pub mod Choosing
pub mod Moved
