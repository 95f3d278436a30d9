pub mod Persons
pub mod NameParts
pub mod Around
pub mod Roles
pub mod Names
pub mod Counts
pub mod Views
pub mod LeftOpen
