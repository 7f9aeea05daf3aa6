pub mod Words
pub mod Digits
pub mod Lines
pub mod Written
pub mod Laws
