mod BuiltinLemmas
mod ClassHeads
mod KeptLemmas
mod Sorting
