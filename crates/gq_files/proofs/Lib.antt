pub mod Histories
pub mod Ordering
pub mod Picturing
pub mod Placing
