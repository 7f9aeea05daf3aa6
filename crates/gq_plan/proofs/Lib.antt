pub mod Ranges
pub mod Running
pub mod Sessions
pub mod Leavers
