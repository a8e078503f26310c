pub mod Ends
pub mod Halls
pub mod Locks
pub mod LockStages
pub mod Runs
