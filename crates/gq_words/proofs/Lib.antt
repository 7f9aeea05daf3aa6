pub mod Subcommands
pub mod Values
pub mod Levels
pub mod Named
pub mod Showing
