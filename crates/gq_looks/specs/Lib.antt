pub mod Looks
pub mod Losses
pub mod Laws
