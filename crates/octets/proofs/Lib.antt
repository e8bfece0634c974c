pub mod RunLaws
pub mod NumberLaws
pub mod ValueLaws
pub mod OnlyOne
pub mod Cases
