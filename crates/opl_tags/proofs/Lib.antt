pub mod AttributeLaws
pub mod TagLaws
pub mod Walked
