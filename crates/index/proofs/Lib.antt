pub mod Puts
pub mod Spans
pub mod Eaches
pub mod Stores
pub mod Workings
pub mod Records
pub mod Nexts
mod Fields
mod Turning
mod Shown
mod Counting
mod Inserting
mod Removing
mod Adding
mod Freeing
mod Places
mod Keeping
mod Standing
mod Tiling
pub mod Histories
pub mod Readings
