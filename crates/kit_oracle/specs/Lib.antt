pub mod Ends
pub mod Pending
pub mod Desks
pub mod Running
pub mod Observing
pub mod Times
pub mod Needing
