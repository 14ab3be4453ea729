pub mod Same
pub mod Nths
