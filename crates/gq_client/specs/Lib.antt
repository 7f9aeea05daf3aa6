pub mod Changing
pub mod Looking
pub mod Steps
