pub mod PositionLines
