pub mod Choosing
pub mod Places
pub mod Tables
pub mod Moves
