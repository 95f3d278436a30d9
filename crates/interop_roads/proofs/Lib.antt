pub mod FlatAlike
pub mod NamesKnown
pub mod WrittenLookUps
pub mod ReadBackAlike
