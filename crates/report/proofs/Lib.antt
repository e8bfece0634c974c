pub mod Cases
pub mod DigitLaws
pub mod Writes
pub mod TextLaws
pub mod ReportLaws
pub mod OnlyOne
pub mod InOrder
pub mod WholeInput
