pub mod Views
pub mod Rest
pub mod Ends
pub mod Told
