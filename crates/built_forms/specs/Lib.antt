pub mod Known
pub mod Forms
pub mod Unbuilt
pub mod Least
