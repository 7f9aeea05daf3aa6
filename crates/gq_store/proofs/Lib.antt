pub mod Sums
pub mod There
pub mod Changed
pub mod Blocks
pub mod Added
pub mod Mixed
pub mod Lost
