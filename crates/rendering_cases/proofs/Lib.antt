pub mod Going
pub mod Kept
pub mod Mapped
pub mod Letters
