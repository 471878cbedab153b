pub mod Seats
pub mod Readings
pub mod Sources
pub mod Calls
pub mod Threads
pub mod Tests
