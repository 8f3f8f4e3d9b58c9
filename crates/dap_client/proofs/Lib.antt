pub mod Waiting
pub mod TerminalRequests
pub mod Growing
pub mod Losing
pub mod Going
pub mod Refusals
pub mod Answered
pub mod Staying
pub mod ReferenceLemmas
pub mod RequestLemmas
pub mod SendsProject
pub mod AnswersProject
pub mod Projecting
pub mod Ends
pub mod Refusing
pub mod Played
mod LifeExamples
mod TerminalExamples
mod ReferencesExamples
mod ProjectionExamples
mod Names
mod Declining
