pub mod FactsBack
pub mod Arriving
