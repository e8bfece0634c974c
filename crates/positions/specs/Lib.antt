pub mod Spans
pub mod Map
pub mod Inner
