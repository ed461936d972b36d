pub mod Orders
pub mod Rules
pub mod Stuck
pub mod Requests
pub mod Questions
pub mod Engine
pub mod PTable
pub mod StuckTable
