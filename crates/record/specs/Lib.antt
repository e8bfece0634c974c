pub mod Record
pub mod Saving
pub mod Reading
pub mod Loading
pub mod Inner
pub mod GivenBack
pub mod Says
