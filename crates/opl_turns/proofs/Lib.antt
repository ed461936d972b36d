pub mod MeaningLaws
pub mod ListLaws
pub mod TurnLaws
