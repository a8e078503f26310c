pub mod Plan
pub mod Overlap
pub mod Limits
pub mod Regional
pub mod Lowered
pub mod Text
pub mod Needs
pub mod Laws
