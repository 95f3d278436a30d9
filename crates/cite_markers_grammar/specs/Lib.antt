pub mod Characters
pub mod Words
pub mod Markers
pub mod Documents
pub mod Laws
