-- `Moving`: the cache through a move.
pub mod Moving
