pub mod Pairs
pub mod Longer
pub mod Given
