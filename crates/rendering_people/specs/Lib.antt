pub mod Properties
pub mod Counts
pub mod Raised
pub mod Lending
pub mod Views
