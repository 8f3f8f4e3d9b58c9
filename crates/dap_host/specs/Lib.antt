pub mod Fed
pub mod Offers
pub mod Parts
pub mod Hearing
pub mod Fetching
pub mod PrivateFetching
pub mod Hosting
pub mod PrivateHosting
