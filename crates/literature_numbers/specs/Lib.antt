pub mod Numbers
pub mod Numerics
pub mod NumericText
pub mod Views
pub mod Pages
pub mod PageViews
