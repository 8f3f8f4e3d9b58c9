pub mod Frames
pub mod Polls
mod ToyExamples
