pub mod Numbered
pub mod Refused
