pub mod Absences
pub mod Columns
pub mod Counts
pub mod Drawing
pub mod Laws
pub mod Register
