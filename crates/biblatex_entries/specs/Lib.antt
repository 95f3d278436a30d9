pub mod TypeNames
pub mod Roles
pub mod Names
pub mod Entries
pub mod Typed
