pub mod Boxes
pub mod CrossDepot
pub mod Plans
