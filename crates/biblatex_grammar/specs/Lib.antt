pub mod Characters
pub mod Gaps
pub mod Balanced
pub mod Values
pub mod Items
pub mod Refusals
pub mod Laws
