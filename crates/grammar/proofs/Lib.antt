pub mod Payloads
pub mod Codec
pub mod Sizes
pub mod Scan
pub mod Bridge
pub mod Runs
pub mod Law
