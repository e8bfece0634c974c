pub mod Decimal
pub mod Text
pub mod Reporting
