pub mod Request
pub mod Reading
pub mod Writing
pub mod Making
pub mod Run
pub mod Inner
pub mod Says
