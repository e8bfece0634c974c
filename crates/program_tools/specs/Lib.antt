pub mod Made
pub mod Planted
pub mod Cases
pub mod Show
pub mod Ending
