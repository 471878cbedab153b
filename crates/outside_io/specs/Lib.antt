pub mod Outside
pub mod Counts
pub mod HostShelfState
pub mod HostSinkState
pub mod Reading
pub mod ShelfState
pub mod SinkState
