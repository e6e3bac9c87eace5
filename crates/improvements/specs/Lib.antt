pub mod Improve
