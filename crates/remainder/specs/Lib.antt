pub mod Remainder
pub mod Check
pub mod Figure
pub mod Shifts
pub mod Inner
