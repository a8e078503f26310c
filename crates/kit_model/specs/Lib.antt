pub mod Journals
pub mod Counts
pub mod Shares
pub mod Laws
pub mod Blocks
pub mod BlockLaws
