pub mod ReadLaws
pub mod ChainLaws
mod StepLaws
pub mod OnceLaws
pub mod SoundLaws
pub mod CheckLaws
pub mod StackLaws
pub mod SameLaws
pub mod EntryLaws
pub mod CarryLaws
mod CutLaws
mod TurnLaws
pub mod ActLaws
mod TotalLaws
pub mod ZeroLaws
