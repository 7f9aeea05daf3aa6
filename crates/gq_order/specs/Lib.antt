pub mod Walk
pub mod Keys
pub mod Passes
pub mod Runs
