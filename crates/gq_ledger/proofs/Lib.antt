pub mod Steps
pub mod Used
