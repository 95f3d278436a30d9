pub mod IndexKept
