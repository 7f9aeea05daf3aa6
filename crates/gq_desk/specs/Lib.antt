pub mod CheckedPlan
pub mod NameBack
pub mod NameNumbers
pub mod Names
pub mod Plans
pub mod Volumes
