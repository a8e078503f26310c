pub mod CutWalk
pub mod Saved
pub mod Laws
pub mod Noted
