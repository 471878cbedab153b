pub mod Joining
pub mod Choosing
pub mod Firing
pub mod Telling
pub mod Weighing
pub mod Ending
