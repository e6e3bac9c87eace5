-- `Inserting`: an offer at every place of a list.
pub mod Inserting
