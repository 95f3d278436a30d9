pub mod Hashes
pub mod TextIndices
