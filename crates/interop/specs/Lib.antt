pub mod Kinds
pub mod Fields
pub mod Bridge
pub mod DateFields
pub mod Library
pub mod Views
pub mod SameFiles
