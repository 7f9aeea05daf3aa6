pub mod Gathering
pub mod Live
pub mod LiveRuns
pub mod Programs
pub mod Requests
