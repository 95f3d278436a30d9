pub mod NamesSerials
pub mod AncestorsWalks
pub mod EntriesDataEquality
