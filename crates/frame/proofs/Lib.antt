pub mod PartLaws
pub mod PieceLaws
pub mod EntryLaws
pub mod Says
pub mod InOrder
pub mod OnlyOne
pub mod Cases
pub mod RoundTrip
