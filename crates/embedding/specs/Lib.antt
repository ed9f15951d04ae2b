pub mod Answers
pub mod Memories
pub mod Sessions
