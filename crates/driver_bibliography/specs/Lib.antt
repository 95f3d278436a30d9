pub mod Substitution
pub mod Items
pub mod AsElements
pub mod Views
