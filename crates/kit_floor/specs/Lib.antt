pub mod Standing
pub mod Joining
pub mod Accounts
pub mod FloorViews
pub mod GuestViews
