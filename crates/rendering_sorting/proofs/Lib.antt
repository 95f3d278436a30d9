pub mod KeyOrder
mod Macros
