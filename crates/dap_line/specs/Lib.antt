pub mod Written
pub mod Told
pub mod Moments
