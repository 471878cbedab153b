pub mod Same
pub mod Valid
