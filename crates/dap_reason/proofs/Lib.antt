mod ExcerptsExamples
mod RecordingsExamples
mod StreamsExamples
pub mod Blank
pub mod BadLines
