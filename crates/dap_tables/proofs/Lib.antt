pub mod Lists
pub mod ArrivalLemmas
pub mod SeqTreeLemmas
pub mod KeptLemmas
pub mod KeyLemmas
pub mod SlotLemmas
pub mod OutstandingLemmas
pub mod SeqLemmas
pub mod Places
pub mod ReferenceLemmas
pub mod IndexLemmas
pub mod KnownLemmas
pub mod SourceLemmas
pub mod StoreLemmas
pub mod SourceMapLemmas
pub mod SetLemmas
pub mod LawLemmas
mod Examples
mod ReferenceExamples
mod BreakpointExamples
mod KnownExamples
