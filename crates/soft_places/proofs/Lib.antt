-- `Laid`: the two lists of a move in a buffer. `Placing`: an offer at every place of a list.
pub mod Laid
pub mod Placing
