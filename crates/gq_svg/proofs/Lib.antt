pub mod Joining
pub mod Places
pub mod Ranges
pub mod Reading
pub mod Telling
