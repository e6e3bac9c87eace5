pub mod Joined
pub mod Considering
