pub mod Pushes
pub mod Subscribed
pub mod Making
pub mod Contents
pub mod KeysMean
pub mod Ranges
