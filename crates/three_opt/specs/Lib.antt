pub mod ThreeOpt
