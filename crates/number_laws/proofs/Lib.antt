mod Counts
mod StatementCounts
mod Numbers
