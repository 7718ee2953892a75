pub mod DemoRuns
pub mod Counted
pub mod DemoWords
