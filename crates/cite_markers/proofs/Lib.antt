pub mod Leaving
pub mod MarkerLeaving
pub mod DocumentLeaving
pub mod Prefixes
pub mod DocumentCases
pub mod DocumentStands
