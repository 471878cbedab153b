pub mod Buffers
pub mod Pieces
pub mod Rounds
pub mod Sizes
pub mod Apart
