pub mod Channel
pub mod Laws
pub mod Sent
