pub mod Flows
pub mod Validity
