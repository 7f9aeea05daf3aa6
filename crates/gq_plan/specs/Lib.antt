pub mod PlanWords
pub mod Leaving
pub mod Following
pub mod Laws
pub mod Answers
