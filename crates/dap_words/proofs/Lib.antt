pub mod Numbers
pub mod Shapes
pub mod Words
mod OptionExamples
mod LayoutExamples
