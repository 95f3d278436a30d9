pub mod Prints
pub mod Views
pub mod Names
pub mod NamesViews
pub mod Keys
pub mod Shared
pub mod Namesakes
pub mod FirstNames
