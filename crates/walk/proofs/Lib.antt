pub mod FrontLaws
pub mod StepLaws
pub mod TurnLaws
pub mod WalkLaws
