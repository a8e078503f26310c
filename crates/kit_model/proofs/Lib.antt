pub mod Pairs
pub mod Lawful
pub mod OldCopies
pub mod Packing
pub mod Widths
pub mod Rows
pub mod Sieves
pub mod Joining
