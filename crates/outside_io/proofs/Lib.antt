pub mod ReadingLemmas
pub mod ShelfTexts
pub mod TakesLemmas
