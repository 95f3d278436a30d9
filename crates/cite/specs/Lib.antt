pub mod Verdict
pub mod Alike
pub mod Roads
pub mod Cited
pub mod Replaced
pub mod Finished
pub mod Views
