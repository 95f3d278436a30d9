pub mod Files
pub mod Programs
