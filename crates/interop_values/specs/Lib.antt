pub mod Values
pub mod Pieces
pub mod Readings
pub mod Views
pub mod Written
