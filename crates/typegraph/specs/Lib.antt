pub mod Maps
pub mod Keys
pub mod Clashes
pub mod Graphs
pub mod Validity
pub mod Kept
