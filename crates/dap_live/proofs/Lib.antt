pub mod Shows
pub mod Drops
pub mod Mails
pub mod Polls
mod LiveExamples
