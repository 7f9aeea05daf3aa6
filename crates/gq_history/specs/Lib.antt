pub mod Laws
pub mod Moments
pub mod Tables
