pub mod Meanings
pub mod Exceptions
pub mod Natives
pub mod Operands
pub mod Operators
pub mod Kinds
pub mod Outside
pub mod Laws
