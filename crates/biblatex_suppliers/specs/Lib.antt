pub mod Asked
pub mod FieldNames
pub mod Written
pub mod Suppliers
pub mod Seen
