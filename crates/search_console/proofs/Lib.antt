pub mod Printing
pub mod Finding
pub mod Serving
pub mod Running
pub mod Promising
