pub mod DocumentsAlike
pub mod EntriesInStates
pub mod EntriesListed
pub mod EntriesOrdered
pub mod HiddenNothing
pub mod SuffixesGiven
pub mod UncitedEntries
