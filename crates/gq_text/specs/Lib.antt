pub mod Input
pub mod PlanText
pub mod AnswerText
pub mod Pieces
pub mod QuorumText
pub mod Canonical
