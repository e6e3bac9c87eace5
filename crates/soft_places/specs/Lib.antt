pub mod Prices
pub mod Places
