pub mod Features
pub mod Missing
pub mod Views
