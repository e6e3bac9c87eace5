pub mod All
pub mod Pick
