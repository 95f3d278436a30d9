pub mod Written
pub mod CountsRows
pub mod CountsMeaning
pub mod RangesLaws
pub mod DelimitedDashes
