-- `Offices`: what every run keeps.
pub mod Offices
