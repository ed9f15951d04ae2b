pub mod Orders
pub mod Shuffles
pub mod Sifts
pub mod Slots
pub mod Drains
pub mod KLeast
