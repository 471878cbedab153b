mod FirstLemmas
pub mod InOrder
pub mod MentionLemmas
mod OnePrinted
pub mod Rising
