pub mod Solved
pub mod Ends
pub mod Results
