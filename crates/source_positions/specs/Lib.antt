pub mod Position
pub mod Messages
pub mod Views
