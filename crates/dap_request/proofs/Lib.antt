pub mod ReadBeside
pub mod PlainBeside
mod BesideExamples
