pub mod References
pub mod Queries
pub mod Bodies
pub mod QueryResults
pub mod Refused
pub mod Laws
