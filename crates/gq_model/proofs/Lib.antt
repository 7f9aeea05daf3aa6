pub mod Changes
pub mod Peers
pub mod Whole
