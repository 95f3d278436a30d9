pub mod Dates
pub mod Locales
pub mod Nodes
pub mod Styles
