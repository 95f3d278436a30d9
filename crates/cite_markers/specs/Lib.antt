pub mod Character
pub mod Words
pub mod Marker
pub mod Document
pub mod Views
