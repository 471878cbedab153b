pub mod Graphs
pub mod Backs
pub mod States
pub mod Memos
pub mod Searches
pub mod Entries
pub mod Answers
