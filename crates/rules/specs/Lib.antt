pub mod Progress
pub mod Faults
pub mod Loading
