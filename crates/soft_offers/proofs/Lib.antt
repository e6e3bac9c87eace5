-- `Offering`: the visits of a list offered, one after another. `Choosing`: the best of a pair.
pub mod Offering
pub mod Choosing
