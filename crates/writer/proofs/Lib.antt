pub mod Places
pub mod Bits
pub mod Adds
pub mod Grows
pub mod Ends
pub mod Rows
pub mod Loads
