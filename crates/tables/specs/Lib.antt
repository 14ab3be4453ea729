pub mod Loaded
pub mod Sample
