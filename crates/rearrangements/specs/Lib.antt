pub mod Rearrange
