pub mod Plans
pub mod Fleet
pub mod Laws
pub mod Keeping
