pub mod Built
pub mod Waiting
