pub mod LineLaws
pub mod KeptLaws
pub mod TagLaws
