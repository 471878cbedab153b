pub mod Compiled
pub mod Emits
pub mod PlaceOf
pub mod Tabled
