pub mod Meeting
pub mod Hearing
pub mod Givers
pub mod Retrying
pub mod Saying
pub mod ByQuorums
pub mod Columns
