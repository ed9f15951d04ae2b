pub mod Orders
pub mod Kinds
pub mod Heaps
pub mod Drains
pub mod Selection
pub mod Steps
