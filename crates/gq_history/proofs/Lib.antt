pub mod Processes
pub mod Tables
pub mod Walking
