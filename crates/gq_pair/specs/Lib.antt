pub mod Pairs
pub mod Parting
pub mod Pairing
