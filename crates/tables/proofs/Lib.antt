pub mod Serving
pub mod Running
