pub mod Rules
pub mod Candidates
pub mod Machine
pub mod Stored
pub mod Steps
pub mod Traces
pub mod Law
pub mod Worked
