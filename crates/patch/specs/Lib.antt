pub mod Patches
pub mod Refused
