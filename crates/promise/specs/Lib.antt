pub mod Held
pub mod Promise
