pub mod Shown
pub mod Blocks
pub mod Runs
pub mod Collapsing
pub mod Views
pub mod Indexed
pub mod Key
