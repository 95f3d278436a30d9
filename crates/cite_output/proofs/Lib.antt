pub mod OutputPieces
