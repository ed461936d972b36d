pub mod Replies
pub mod Cells
pub mod Done
