pub mod Refusal
pub mod Answered
