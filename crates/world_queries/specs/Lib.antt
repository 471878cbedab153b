pub mod Choices
pub mod Queries
pub mod Firings
