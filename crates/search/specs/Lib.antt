pub mod Refusals
pub mod Promised
pub mod Walks
pub mod Sources
