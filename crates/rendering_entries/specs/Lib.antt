pub mod Answers
pub mod Works
pub mod Library
pub mod Views
