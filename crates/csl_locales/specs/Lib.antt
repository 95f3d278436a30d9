pub mod Called
pub mod Languages
pub mod Sets
pub mod Words
pub mod Terms
pub mod Endings
pub mod Locales
