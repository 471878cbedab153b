pub mod Lists
pub mod Numbers
mod Ending
mod Seeing
mod Classless
mod Printing
mod StubRows
