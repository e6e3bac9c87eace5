pub mod Tables
pub mod Blocks
pub mod Sides
