pub mod Acts
pub mod Step
pub mod StepRows
