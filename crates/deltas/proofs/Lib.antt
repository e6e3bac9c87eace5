pub mod Stops
pub mod Legs
pub mod Exact
pub mod Shortcut
pub mod Days
