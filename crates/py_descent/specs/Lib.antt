pub mod Bodies
pub mod Codes
pub mod Descent
pub mod Goals
pub mod Laws
pub mod Programs
pub mod Takings
