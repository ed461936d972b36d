pub mod SessionLaws
pub mod StoreLaws
