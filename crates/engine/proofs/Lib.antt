pub mod RespectLaws
pub mod Lifts
pub mod LowerKinds
pub mod PlaceLaws
pub mod Ways
pub mod EmptyLaws
pub mod SettleLaws
pub mod QuickLaws
