pub mod GroupLemmas
pub mod RowLemmas
pub mod FirstLemmas
pub mod OperatorLemmas
pub mod NumberLemmas
pub mod ClassLemmas
