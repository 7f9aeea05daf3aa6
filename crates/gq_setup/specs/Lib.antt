pub mod Setups
pub mod GoingOn
pub mod NotKept
pub mod Leaving
pub mod Texts
pub mod Faults
pub mod Laws
