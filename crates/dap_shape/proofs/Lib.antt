mod ShapeExamples
pub mod ShapeLemmas
pub mod SoundLemmas
pub mod FewRows
pub mod ReadLemmas
mod BodyRows
mod ObjectRows
