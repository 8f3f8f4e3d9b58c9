mod CapabilitiesExamples
mod CommandExamples
mod GivenExamples
mod KeyExamples
mod ObjectsExamples
pub mod GatheredLemmas
pub mod Openings
pub mod OfferLemmas
pub mod OfferExamples
