pub mod Lending
pub mod Words
pub mod Heap
pub mod Crosses
pub mod Contents
pub mod Copied
