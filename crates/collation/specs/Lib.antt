pub mod Letters
pub mod Keys
pub mod Views
