pub mod Works
pub mod Names
pub mod Run
pub mod Views
