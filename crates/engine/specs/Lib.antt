pub mod Tables
pub mod Outcomes
pub mod Kinds
pub mod Order
pub mod Slots
pub mod Passes
pub mod Turns
