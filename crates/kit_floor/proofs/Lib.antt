pub mod Counting
pub mod Covering
pub mod Closing
