pub mod SpaceLaws
