pub mod Reading
pub mod Views
