pub mod Shapes
pub mod Rows
pub mod Faults
pub mod Sentences
pub mod Seen
pub mod Laws
pub mod PrivateSound
pub mod Headings
