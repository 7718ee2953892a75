pub mod Bare
pub mod LineCuts
pub mod LineLaws
pub mod Reading
