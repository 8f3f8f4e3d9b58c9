pub mod Waiting
pub mod Draft
pub mod InRange
pub mod Outbox
pub mod Several
