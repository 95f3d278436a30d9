pub mod TablePassing
pub mod TableRenamed
