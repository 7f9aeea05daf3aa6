pub mod Machines
pub mod Faults
