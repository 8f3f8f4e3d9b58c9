mod FaultExamples
mod FileExamples
pub mod WholeFiles
pub mod FaultTexts
pub mod ListedTexts
pub mod Walked
mod HintExamples
mod CommandExamples
pub mod PrintedInOrder
