pub mod Gathering
pub mod Living
pub mod Programming
pub mod Reading
