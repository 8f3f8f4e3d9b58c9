pub mod Excerpts
pub mod Recordings
pub mod Streams
