pub mod Agreeing
pub mod Meeting
pub mod Inside
pub mod Columns
pub mod Ranges
pub mod Same
