pub mod Values
pub mod Widths
pub mod Laws
pub mod CutValues
pub mod CutWidths
pub mod CutLaws
pub mod Making
pub mod Text
