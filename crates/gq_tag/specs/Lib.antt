pub mod Tag
pub mod Laws
pub mod View
