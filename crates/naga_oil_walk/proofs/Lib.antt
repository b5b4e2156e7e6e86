pub mod OptionLemmas
pub mod WalkLemmas
pub mod WalkForm
pub mod WalkNotes
pub mod FunctionWalk
pub mod NamingLemmas
pub mod ReachSteps
pub mod WaitingLemmas
