pub mod Built
pub mod Cells
pub mod Stores
