pub mod Lists
pub mod Distinct
pub mod RootLaw
pub mod Closure
pub mod Growing
pub mod Renaming
pub mod Alike
