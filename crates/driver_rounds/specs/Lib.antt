pub mod Documents
pub mod FirstPrints
pub mod Views
pub mod CitesInStep
pub mod Numbering
pub mod OrderAndNumbers
pub mod Rounding
pub mod Naming
