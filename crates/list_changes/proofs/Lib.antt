-- `Packing`: empty lists dropped. `Edited`: what every edit keeps. `Two` and `Across`: the edits that change two lists. `StillFine`: lists not
-- refused stay so. `Cases`: the definitions, computed.
pub mod Packing
pub mod Edited
pub mod Two
pub mod Across
pub mod StillFine
pub mod Cases
