mod InOrder
mod FindingOrder
mod Counts
mod Growing
mod FiredOne
mod PointLines
mod Adding
mod Telling
mod Beginning
mod Inferring
pub mod Covering
