pub mod Ledgers
pub mod Channels
pub mod Rounds
pub mod Rule
pub mod Steps
pub mod Laws
pub mod Least
