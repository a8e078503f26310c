pub mod Merges
pub mod Summary
