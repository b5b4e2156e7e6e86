pub mod GivenLemmas
pub mod AnswerLemmas
pub mod BuildLemmas
