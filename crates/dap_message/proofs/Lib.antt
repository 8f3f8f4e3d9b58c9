pub mod Examples
pub mod Sizes
pub mod Lengths
pub mod AnswerTexts
mod ReadsBack
