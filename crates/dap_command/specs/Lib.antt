pub mod Command
pub mod Capabilities
pub mod Opening
mod PrivateOpening
pub mod Offer
pub mod Objects
pub mod GivenReferences
pub mod Gathered
pub mod Key
pub mod Numbers
pub mod SameSource
