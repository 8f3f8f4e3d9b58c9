pub mod Outboxes
pub mod SeveralAnswers
pub mod Explanations
mod ExplanationExamples
pub mod WaitingLemmas
