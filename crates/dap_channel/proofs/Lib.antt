pub mod Bytes
mod LogExamples
pub mod Logs
pub mod Piped
