pub mod Table
pub mod Fine
