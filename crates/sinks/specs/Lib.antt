pub mod Sinks
pub mod Targets
