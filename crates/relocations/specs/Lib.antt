pub mod Relocations
pub mod Offers
