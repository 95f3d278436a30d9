pub mod Table
pub mod Offered
pub mod Views
