pub mod Sources
pub mod Lines
pub mod Rounds
pub mod Told
pub mod Telling
pub mod Inferred
pub mod Runs
