pub mod EditMarks
pub mod Covered
pub mod Horizons
pub mod Woken
pub mod Contradicted
pub mod LeftMarks
pub mod TokenMarks
