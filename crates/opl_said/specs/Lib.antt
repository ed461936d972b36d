pub mod Said
pub mod Forms
