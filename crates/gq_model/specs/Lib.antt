pub mod Told
pub mod Trace
pub mod Lone
pub mod Events
pub mod Shown
pub mod Said
