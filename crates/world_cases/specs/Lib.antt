pub mod Worlds
pub mod Trees
