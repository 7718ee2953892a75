pub mod Repairs
pub mod Told
pub mod Aims
pub mod Trials
pub mod Refusals
pub mod RepairsSteps
pub mod Sessions
