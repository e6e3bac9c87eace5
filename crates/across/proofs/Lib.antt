pub mod Hard
