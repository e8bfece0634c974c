pub mod SpanLaws
pub mod BitLaws
pub mod MapLaws
pub mod SideLaws
pub mod SearchLaws
pub mod OnlyOne
pub mod Cases
