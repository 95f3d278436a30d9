pub mod Meant
pub mod Parts
pub mod Weights
pub mod Once
pub mod Places
pub mod Rows
