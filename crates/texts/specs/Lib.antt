pub mod Character
pub mod Reading
pub mod Views
