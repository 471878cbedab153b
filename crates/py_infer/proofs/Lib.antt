pub mod TwoWords
pub mod Rows
pub mod Walk
pub mod Judged
pub mod Refusing
pub mod Asking
pub mod Ending
pub mod Covering
