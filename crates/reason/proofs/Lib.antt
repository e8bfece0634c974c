pub mod Bools
pub mod OrderLaws
pub mod OnlyOne
pub mod Writing
pub mod Reasons
