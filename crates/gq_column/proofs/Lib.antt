pub mod Standing
pub mod Stuck
pub mod Acts
pub mod Law
pub mod WorkedCase
pub mod Alike
