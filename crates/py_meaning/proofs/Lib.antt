pub mod Samples
pub mod Written
mod OperatorRuns
mod ContainerRuns
mod StatementRuns
mod CallRuns
mod NativeRuns
mod StubRuns
mod StubValueRuns
mod OrderRuns
pub mod Carrying
pub mod Holding
pub mod Heads
pub mod Ending
pub mod More
pub mod Endings
pub mod Growing
pub mod Pointing
pub mod OwnViews
pub mod Kept
pub mod KeptValues
pub mod KeptParts
pub mod KeptNatives
pub mod KeptStatements
pub mod KeptRuns
pub mod KeptModules
pub mod ClassNames
mod Belonging
mod Unions
mod KindTables
pub mod RowKinds
mod Raising
pub mod FreshKinds
