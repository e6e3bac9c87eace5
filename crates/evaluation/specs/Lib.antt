pub mod Route
pub mod Unclocked
pub mod Distance
pub mod Drive
