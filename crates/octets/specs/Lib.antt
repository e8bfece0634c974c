pub mod Numbers
pub mod Runs
pub mod Values
pub mod Lists
