pub mod Reconnected
