pub mod Integer
pub mod Gender
pub mod EditorType
pub mod Pages
pub mod Views
pub mod Dates
pub mod Texts
pub mod Permissive
