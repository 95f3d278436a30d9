pub mod Borrowed
pub mod Characters
pub mod Counts
pub mod Equality
pub mod Results
pub mod Runs
pub mod Steps
pub mod Text
