pub mod Places
pub mod Outputs
pub mod Ranges
pub mod Plain
pub mod SetLines
pub mod Changed
pub mod OneHolder
pub mod Told
pub mod MovesExamples
pub mod PlayedExamples
pub mod PollsExamples
pub mod Telling
pub mod Stops
mod Arrivals
