pub mod Patterns
pub mod Below
