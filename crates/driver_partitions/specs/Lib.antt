pub mod Parts
pub mod Classes
pub mod Laws
