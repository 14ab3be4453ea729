pub mod Places
mod Words
