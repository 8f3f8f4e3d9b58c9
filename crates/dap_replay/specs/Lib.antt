pub mod Moves
pub mod Played
pub mod PrivateSetLines
pub mod PrivateHeld
pub mod PlayedLaws
pub mod Polls
pub mod PlainMoves
pub mod ShownNumbers
