mod Texts
mod Streams
mod LinesWritten
mod Delivering
mod Spending
mod Reading
mod Doing
mod Scripting
mod NoComments
mod Recordings
mod ScriptExamples
pub mod Schedules
