pub mod Classes
pub mod Steps
pub mod Trims
pub mod Words
pub mod Cites
pub mod Openings
pub mod Pieces
pub mod Laws
