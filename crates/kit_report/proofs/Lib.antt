mod Joined
pub mod InMerge
pub mod MergeStates
pub mod Places
pub mod Best
pub mod Taking
