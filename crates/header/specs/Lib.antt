pub mod Items
pub mod Header
pub mod Data
pub mod Rules
pub mod Notes
pub mod Figure
pub mod Says
pub mod Told
