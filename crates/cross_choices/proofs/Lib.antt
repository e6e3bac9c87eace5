pub mod Numbers
pub mod Deciding
