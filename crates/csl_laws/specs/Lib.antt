pub mod Alike
pub mod Pieces
pub mod Places
pub mod Trees
pub mod Laws
pub mod Comments
