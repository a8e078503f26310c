pub mod Rounds
pub mod Starts
pub mod Looks
pub mod Polls
pub mod Stages
pub mod Shows
pub mod Laws
