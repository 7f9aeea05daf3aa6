pub mod Fitting
mod Idle
