pub mod Moments
pub mod Seeing
pub mod Among
pub mod WorkedCase
pub mod Growing
pub mod Losing
pub mod Kept
pub mod WorkedLosses
