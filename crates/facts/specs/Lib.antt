pub mod Kinds
pub mod Lists
pub mod Meanings
pub mod Places
pub mod Reads
