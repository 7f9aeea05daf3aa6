pub mod Rising
pub mod InOrder
pub mod Sessions
pub mod Within
pub mod Picking
