pub mod Literals
pub mod Accepted
