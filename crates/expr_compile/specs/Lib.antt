pub mod Emitted
pub mod Finished
pub mod Growth
pub mod Jumps
pub mod NamesOf
