pub mod Planes
pub mod Sets
