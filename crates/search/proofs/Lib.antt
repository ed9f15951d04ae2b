pub mod Walking
pub mod Asking
pub mod Reading
pub mod Granting
