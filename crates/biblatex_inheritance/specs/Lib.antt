pub mod Resolved
pub mod Views
pub mod Solution
