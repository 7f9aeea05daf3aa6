pub mod Floors
pub mod Ahead
pub mod Behind
pub mod WorkedCase
