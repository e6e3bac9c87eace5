pub mod Scan
pub mod Rows
