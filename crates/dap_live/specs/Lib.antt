pub mod MailState
pub mod Placing
pub mod LiveShown
pub mod Dropping
pub mod Hearing
pub mod LiveLaws
pub mod PrivateHeld
pub mod PrivateHearing
