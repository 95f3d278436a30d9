pub mod Ends
pub mod Meeting
pub mod Citations
pub mod Standalone
pub mod Joining
pub mod Contents
pub mod AsWritten
