pub mod Running
pub mod Choosing
