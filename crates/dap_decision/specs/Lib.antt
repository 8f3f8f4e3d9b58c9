pub mod Table
pub mod Failures
pub mod Decisions
pub mod Laws
