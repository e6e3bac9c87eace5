-- `Cuts`: a list as its pieces. `Pieces`: what each edit makes of a list given in pieces. `Turns`: the edits as reversals.
-- `Kept`: what every edit keeps. `Chain`: a list that is built by appending.
pub mod Cuts
pub mod Pieces
pub mod Turns
pub mod Kept
pub mod Chain
