-- `Choosing`: an offer at every place. `Trying`: with what is known, and the loop over the visits.
pub mod Choosing
pub mod Trying
