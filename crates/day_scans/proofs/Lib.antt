-- `Flags`: the words of std for a scan over the flags are the definitions' own.
pub mod Flags
