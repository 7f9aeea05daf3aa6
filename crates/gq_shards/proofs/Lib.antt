pub mod PartPlans
pub mod Seeing
pub mod Passing
pub mod Lefts
pub mod Cuts
pub mod Listing
pub mod Going
