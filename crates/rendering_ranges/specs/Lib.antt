pub mod Digits
pub mod Formats
pub mod Counts
pub mod Ranges
pub mod Laws
pub mod Dashes
pub mod Delimited
pub mod Lettered
