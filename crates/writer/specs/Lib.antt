pub mod Memory
pub mod Variables
pub mod Refusals
pub mod Tallies
pub mod Stages
pub mod Tables
pub mod Calls
