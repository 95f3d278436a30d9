pub mod TermPlaces
