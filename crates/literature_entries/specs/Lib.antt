pub mod Fields
pub mod Views
pub mod Names
pub mod Ancestors
pub mod EntriesData
