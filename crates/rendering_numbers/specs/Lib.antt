pub mod Numbers
pub mod SuffixesAndLabels
pub mod Years
