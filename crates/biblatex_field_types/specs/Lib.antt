pub mod Meaning
pub mod Views
pub mod Classes
