pub mod Quorums
pub mod Laws
pub mod Phase
pub mod Course
pub mod Best
pub mod Standing
