pub mod Holes
pub mod Listing
pub mod EveryHole
