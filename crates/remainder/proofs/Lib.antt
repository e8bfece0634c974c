pub mod Xor
pub mod Linear
pub mod Steps
pub mod Shifts
pub mod Reading
pub mod CheckLaws
pub mod OnlyOne
pub mod Cases
