pub mod Calendar
pub mod Dates
pub mod Parts
pub mod Written
