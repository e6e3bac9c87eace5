pub mod Reconnections
