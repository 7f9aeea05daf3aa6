pub mod Cluster
pub mod Laws
pub mod Operations
pub mod OwnWrites
pub mod Restarts
pub mod Facts
pub mod Keeping
