pub mod Variables
pub mod Kinds
pub mod Terms
pub mod Formats
pub mod NameForms
pub mod Views
