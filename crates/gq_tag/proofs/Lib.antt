pub mod Order
pub mod Greatest
