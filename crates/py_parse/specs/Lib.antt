pub mod Atoms
pub mod Depths
pub mod Gives
pub mod Literals
pub mod Parses
pub mod Targets
