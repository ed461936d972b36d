pub mod ReplyLaws
pub mod DoneLaws
pub mod CellLaws
pub mod RowLaws
pub mod SearchLaws
