pub mod Chained
pub mod Counted
pub mod Within
pub mod Posing
pub mod Slots
pub mod Runs
pub mod Asks
pub mod Kept
