pub mod Apart
pub mod Clean
