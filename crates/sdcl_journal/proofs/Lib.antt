pub mod Counting
pub mod Bound
pub mod PathSteps
pub mod LongRuns
pub mod Outputs
