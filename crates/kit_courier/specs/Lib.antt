pub mod Deliveries
pub mod Clocks
pub mod Letters
pub mod Couriers
pub mod Guests
pub mod Calls
