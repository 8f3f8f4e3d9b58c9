pub mod Behind
pub mod Buffer
pub mod Causes
pub mod Finds
pub mod Limited
