pub mod Changed
pub mod Levels
pub mod Viewed
