pub mod SoftSearch
pub mod Chosen
