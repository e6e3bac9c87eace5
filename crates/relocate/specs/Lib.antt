pub mod DeltaSearch
