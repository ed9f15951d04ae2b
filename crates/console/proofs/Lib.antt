pub mod Serving
pub mod Reading
pub mod Running
pub mod Filling
