pub mod Gathered
pub mod Merging
pub mod Times
