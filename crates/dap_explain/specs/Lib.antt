pub mod Reasons
pub mod Sentences
pub mod KeptTrails
pub mod KeptNotes
pub mod PrivateWalks
pub mod Explained
pub mod Explanations
