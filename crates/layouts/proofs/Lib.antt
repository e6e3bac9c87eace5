pub mod Layouts
pub mod Onward
