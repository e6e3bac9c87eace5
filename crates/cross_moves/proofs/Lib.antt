pub mod Fitting
pub mod Stretch
