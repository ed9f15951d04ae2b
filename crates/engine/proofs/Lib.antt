pub mod Places
pub mod Fills
pub mod Pass
pub mod Cancels
pub mod Moves
pub mod Walks
pub mod Begins
