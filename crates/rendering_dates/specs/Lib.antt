pub mod Changes
pub mod Dates
pub mod Joined
pub mod Sides
pub mod Views
