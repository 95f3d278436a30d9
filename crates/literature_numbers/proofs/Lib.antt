pub mod NumbersShorter
pub mod NumbersSteps
pub mod NumbersSeparators
pub mod NumbersAgain
pub mod NumericsAgain
pub mod PagesSteps
pub mod PagesAgain
pub mod Equality
