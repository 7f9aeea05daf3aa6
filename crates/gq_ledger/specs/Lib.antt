pub mod Steps
pub mod Used
pub mod Ledgers
pub mod Laws
