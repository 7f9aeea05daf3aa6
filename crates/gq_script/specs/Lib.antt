pub mod Out
pub mod Seeing
pub mod Faults
pub mod Alone
pub mod Linearizable
pub mod Completing
pub mod Stepping
