pub mod Command
pub mod Views
