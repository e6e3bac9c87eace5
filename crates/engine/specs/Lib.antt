pub mod Engine
pub mod Best
