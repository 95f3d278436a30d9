pub mod Locales
pub mod Codes
pub mod Lookup
pub mod CodeViews
pub mod TermViews
pub mod Indexed
pub mod Views
