pub mod Ordered
pub mod EntryKeys
pub mod Views
pub mod Order
pub mod Sorted
pub mod Keyed
pub mod Laws
