pub mod Keys
pub mod Waiting
pub mod Places
pub mod Early
