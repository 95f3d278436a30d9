pub mod Kept
pub mod Words
pub mod Opened
pub mod Spacing
