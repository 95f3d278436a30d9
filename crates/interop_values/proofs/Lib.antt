pub mod PiecesParting
pub mod PiecesGrowing
pub mod ValuesMembers
pub mod WrittenValues
