pub mod Decisions
pub mod Verdicts
pub mod Places
pub mod Kinds
pub mod Counted
pub mod Queues
pub mod Projecting
