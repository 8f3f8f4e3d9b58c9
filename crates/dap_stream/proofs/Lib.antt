mod ListingExamples
pub mod OneFault
pub mod ShowLemmas
pub mod UnbrokenBodies
pub mod UnbrokenTexts
pub mod UnbrokenWords
mod UnwrapExamples
pub mod Unwrapped
mod WrapExamples
pub mod Wrapped
mod FollowLemmas
