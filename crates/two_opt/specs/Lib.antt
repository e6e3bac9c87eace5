pub mod TwoOpt
