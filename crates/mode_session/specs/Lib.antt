pub mod ModeSteps
pub mod LongLines
