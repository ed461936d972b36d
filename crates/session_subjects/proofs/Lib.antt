pub mod WallLaws
