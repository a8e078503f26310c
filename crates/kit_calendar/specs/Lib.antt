pub mod Buckets
pub mod Held
pub mod Least
pub mod Rows
pub mod Spots
