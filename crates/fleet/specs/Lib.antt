pub mod Fleet
pub mod Refusal
