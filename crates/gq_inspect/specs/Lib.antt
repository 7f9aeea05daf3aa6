pub mod Steps
pub mod Lists
pub mod Replay
pub mod Tapes
