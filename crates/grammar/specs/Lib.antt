pub mod Atoms
pub mod Parts
pub mod Writing
pub mod Reading
pub mod Tests
pub mod Faults
pub mod Sizes
pub mod Validity
