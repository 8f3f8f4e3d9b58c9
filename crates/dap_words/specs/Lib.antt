pub mod Options
pub mod CommandLine
pub mod PrivateShapes
pub mod Layout
