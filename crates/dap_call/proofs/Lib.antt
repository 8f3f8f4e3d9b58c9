mod ArgumentExamples
mod CallExamples
mod TerminalExamples
mod WritingExamples
pub mod ReadAgain
pub mod Named
pub mod PlainTree
pub mod TerminalLaws
pub mod Written
