-- `Searching`: the table of pairs as a run's loops fill it. `Scanning`: the offers of a pair of lists as a scan of its candidates.
pub mod Searching
pub mod Scanning
