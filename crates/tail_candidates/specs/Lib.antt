pub mod Choice
pub mod TwoLists
pub mod Candidate
