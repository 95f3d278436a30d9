pub mod Cites
pub mod Contexts
pub mod Stretches
pub mod Answering
pub mod Choosing
pub mod Views
