pub mod Facts
pub mod Laws
