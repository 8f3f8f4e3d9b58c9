pub mod Carrying
pub mod Stepping
pub mod Agreeing
pub mod Calling
