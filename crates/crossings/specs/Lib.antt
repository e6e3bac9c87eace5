pub mod CrossDepot
