pub mod Pieces
pub mod Turn
