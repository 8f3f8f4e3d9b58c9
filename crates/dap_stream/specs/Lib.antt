pub mod Lines
pub mod Following
pub mod Listing
pub mod PrivateFollowing
pub mod PrivateShowSteps
pub mod Unwrapping
pub mod Wrapping
