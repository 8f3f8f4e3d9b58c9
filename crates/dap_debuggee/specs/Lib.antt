pub mod Shown
pub mod Laws
pub mod KeepsLaws
pub mod StayLaws
