-- `Pigeonhole` and `Fine`: what lists that are not refused tell. `Seen`: the test that no office stands twice. `Cases`: the definitions, computed.
pub mod Pigeonhole
pub mod Fine
pub mod Seen
pub mod Cases
