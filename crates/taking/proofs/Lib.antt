pub mod Cases
pub mod TakingLaws
pub mod OnlyOne
