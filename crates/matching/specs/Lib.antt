pub mod Applying
pub mod Conditions
pub mod Heads
pub mod Rewriting
pub mod Terms
pub mod Written
