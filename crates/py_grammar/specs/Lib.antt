pub mod Cursor
pub mod Expressions
pub mod Modules
pub mod Names
pub mod Nesting
pub mod Operators
pub mod Statements
