mod RuleExamples
mod TranscriptExamples
mod WorkedExamples
mod FindingExamples
pub mod FirstLemmas
pub mod OfferLemmas
pub mod ReferenceLemmas
pub mod LegalLemmas
pub mod OpenLemmas
pub mod InOrder
pub mod FindingLemmas
pub mod Listed
pub mod Outcomes
pub mod Lines
pub mod Judged
pub mod JudgedLines
pub mod Splits
pub mod OneVerdict
pub mod OneReading
pub mod ByPlaces
pub mod RulesByPlaces
pub mod Flags
pub mod BareLemmas
pub mod ReadLines
pub mod Ordered
