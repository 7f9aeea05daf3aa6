pub mod Asking
pub mod Changing
pub mod Hearings
pub mod Requests
pub mod Stepping
pub mod GivingUp
