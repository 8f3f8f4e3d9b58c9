pub mod ByteWorld
pub mod Carried
pub mod Agreement
pub mod Steps
