pub mod PrivateAnswering
pub mod MessageParts
pub mod Appending
pub mod Lengths
