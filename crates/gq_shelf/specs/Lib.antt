pub mod Apart
pub mod Extents
pub mod Notes
pub mod Places
