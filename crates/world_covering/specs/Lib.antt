pub mod Modules
pub mod Forms
pub mod Standing
pub mod RowLaws
pub mod Keeping
pub mod Covering
pub mod OneLine
