pub mod English
pub mod Dates
pub mod Rows
pub mod Nodes
pub mod Layouts
pub mod Styles
pub mod Parts
