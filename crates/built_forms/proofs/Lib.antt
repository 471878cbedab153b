pub mod Singles
pub mod Parts
