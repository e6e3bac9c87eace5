pub mod Distances
pub mod Answer
pub mod Onward
pub mod Same
pub mod Days
