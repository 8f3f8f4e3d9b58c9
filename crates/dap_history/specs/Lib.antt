pub mod History
pub mod Answers
pub mod HistoryLaws
pub mod Requests
pub mod Received
pub mod Pieces
