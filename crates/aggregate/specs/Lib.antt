pub mod Aggregates
pub mod Choices
pub mod Folds
