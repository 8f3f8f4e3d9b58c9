pub mod ToyShown
pub mod ToyActs
pub mod ToyLaws
