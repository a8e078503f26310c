pub mod Paths
pub mod Reading
pub mod Agreement
pub mod Places
pub mod Faults
pub mod Answers
