pub mod Shown
pub mod Refusals
pub mod Unsettled
pub mod Views
pub mod Program
