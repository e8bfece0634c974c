pub mod Piece
pub mod Entry
pub mod Making
pub mod Figure
pub mod Says
pub mod Parts
