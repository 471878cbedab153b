pub mod Worlds
pub mod Walks
pub mod Backs
pub mod Growth
pub mod Renamings
