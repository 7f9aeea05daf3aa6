pub mod Standing
pub mod Tenants
pub mod Segments
pub mod Settling
pub mod Memory
pub mod Moved
