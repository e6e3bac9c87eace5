pub mod Neighbours
pub mod Places
pub mod Numbers
