pub mod Words
pub mod Given
