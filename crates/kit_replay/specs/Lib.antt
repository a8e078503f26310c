pub mod Schedules
pub mod Reports
pub mod Endings
pub mod Replays
pub mod Parts
pub mod Stages
