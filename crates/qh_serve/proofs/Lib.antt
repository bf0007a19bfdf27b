pub mod AnswerLemmas
pub mod EvenCuts
