pub mod Listed
pub mod Order
pub mod Views
pub mod Laws
