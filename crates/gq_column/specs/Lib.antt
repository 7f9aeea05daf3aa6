pub mod Column
pub mod Laws
pub mod Worked
pub mod Ledgers
