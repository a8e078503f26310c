pub mod Reach
pub mod Cuts
pub mod ValidCuts
pub mod Resuming
pub mod SinceCut
pub mod Laws
pub mod Desks
pub mod Upto
