pub mod Values
pub mod Questions
pub mod Requests
pub mod Letters
pub mod Fetching
pub mod Incoming
pub mod Texts
pub mod Laws
