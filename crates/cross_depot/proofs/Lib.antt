pub mod Carrying
pub mod Answering
pub mod Ends
