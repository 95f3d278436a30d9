pub mod References
pub mod Order
pub mod Search
pub mod Invariant
