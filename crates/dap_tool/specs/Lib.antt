pub mod Faults
pub mod Explanations
pub mod Files
pub mod Hints
pub mod Commands
pub mod Verdicts
pub mod PrivateListed
pub mod PrintedLaws
