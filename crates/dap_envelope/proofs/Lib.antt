pub mod RoundTrip
pub mod MeaningLemmas
pub mod RefusalLemmas
pub mod Told
pub mod HeadingLemmas
pub mod ResponseReferencesLemmas
pub mod SoundTree
pub mod Examples
pub mod SoundReading
pub mod Ranges
mod OneLine
pub mod OnePassLemmas
