pub mod WhoWent
pub mod Staying
pub mod Starting
pub mod Crashes
pub mod NewNodes
pub mod NewRegisters
pub mod NewBoth
pub mod ByParts
