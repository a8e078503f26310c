pub mod Causes
pub mod Pace
pub mod Memory
pub mod Reading
