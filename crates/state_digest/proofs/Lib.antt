pub mod Rests
pub mod Pieces
