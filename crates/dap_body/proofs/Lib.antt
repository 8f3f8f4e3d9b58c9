pub mod Examples
pub mod Tokens
pub mod Rows
pub mod Among
pub mod FitMembers
mod OffersAlone
mod FlagLemmas
mod BesideExamples
pub mod PlainBodies
pub mod GivenNumbers
pub mod Offered
pub mod ReadAgain
pub mod EachLemmas
mod ViewExamples
