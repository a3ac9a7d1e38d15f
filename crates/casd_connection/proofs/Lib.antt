pub mod CourseLaws
pub mod AnswerLaws
pub mod FrameLaws
pub mod TurnLaws
pub mod LoopLaws
pub mod LinkLaws
pub mod RunLaws
pub mod ServeLaws
