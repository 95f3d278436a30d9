pub mod Listed
pub mod Reading
pub mod Resolved
pub mod Graphs
pub mod Solutions
pub mod Meanings
