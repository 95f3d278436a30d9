pub mod NamesCommas
pub mod NamesNothing
pub mod EntriesPlain
pub mod TypedStored
