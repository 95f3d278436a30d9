pub mod Elements
pub mod Unlisted
pub mod Texts
pub mod Opened
pub mod Weights
pub mod OrdinalWords
