pub mod Growth
pub mod Places
pub mod Worlds
pub mod Edges
