-- `Order`, `Sorted`, `Best`, `Listed`: one total order of the moves, by which every order of search agrees.
-- `Rows`, `Least`: the least entry of the table. `Kept`: the table kept right. `Taken`, `Going`: what it is to an engine, and a run under way.
pub mod Order
pub mod Sorted
pub mod Best
pub mod Listed
pub mod Rows
pub mod Least
pub mod Kept
pub mod Taken
pub mod Going
