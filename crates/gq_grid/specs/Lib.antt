pub mod Grid
pub mod Laws
pub mod Sets
