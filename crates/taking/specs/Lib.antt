pub mod Taking
pub mod Examples
