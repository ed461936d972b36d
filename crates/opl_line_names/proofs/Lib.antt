pub mod DeclaredLaws
pub mod FilledLaws
pub mod LineNames
