pub mod Functions
pub mod Leaving
pub mod Trails
pub mod Turns
pub mod Follows
pub mod Modules
pub mod Reached
