pub mod Places
pub mod Windows
pub mod Messages
pub mod Views
