pub mod Copies
pub mod Channels
pub mod Envelopes
pub mod Slips
