pub mod Offers
pub mod Inner
