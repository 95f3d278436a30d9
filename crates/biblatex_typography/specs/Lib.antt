pub mod Typography
pub mod Changes
