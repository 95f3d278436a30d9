pub mod Sorted
pub mod Keyed
pub mod Laws
