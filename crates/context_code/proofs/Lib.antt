pub mod Contexts
pub mod SeatVariables
pub mod SourceReadings
