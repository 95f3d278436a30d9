pub mod Output
pub mod Pieces
