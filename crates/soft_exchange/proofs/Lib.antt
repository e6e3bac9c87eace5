pub mod Choosing
pub mod Offices
