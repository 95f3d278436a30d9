pub mod Titles
pub mod Tasks
pub mod Pages
pub mod Hidden
pub mod Flattened
pub mod Alike
pub mod AlikePairs
