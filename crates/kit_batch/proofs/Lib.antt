pub mod Calls
pub mod Gathered
pub mod Same
pub mod Merging
pub mod Fresh
