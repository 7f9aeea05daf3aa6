pub mod Copies
pub mod Balance
pub mod Serving
