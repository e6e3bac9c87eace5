pub mod Counts
pub mod Layouts
pub mod Onward
pub mod Relocated
