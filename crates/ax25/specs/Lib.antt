pub mod Address
pub mod Head
pub mod Bits
pub mod Information
pub mod Examples
pub mod Says
