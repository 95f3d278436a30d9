pub mod Date
pub mod Datetime
pub mod Parts
pub mod Shape
pub mod Side
pub mod Written
