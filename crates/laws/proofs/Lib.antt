pub mod Equality
pub mod Results
pub mod Runs
pub mod Steps
pub mod Cut
pub mod Text
pub mod Throughout
pub mod Gathering
