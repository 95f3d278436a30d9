pub mod Pairs
pub mod Chunks
pub mod Fields
