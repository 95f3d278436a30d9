pub mod NodeSettings
pub mod Quoted
pub mod Links
pub mod Values
pub mod Views
pub mod Parts
pub mod Words
