pub mod Counting
pub mod Reading
pub mod Sending
pub mod Slips
