pub mod Quote
pub mod Laws
