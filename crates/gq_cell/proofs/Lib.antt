pub mod Growing
pub mod Later
pub mod Beginning
pub mod Boarding
